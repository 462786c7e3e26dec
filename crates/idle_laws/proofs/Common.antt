-- The names that most proofs here cite, passed on from one place. Declares nothing.
pub use Rattle.step_trace.proofs.ListMembers.{Contains-from_map, Contains-head, Contains-map, Contains-nil, Contains-rest}
pub use Rattle.step_trace.specs.Bounds.{DeltaHolds, IsDelivered, IsLeastBound, IsMessage, PhiHolds}
pub use Rattle.step_trace.specs.Ticks.{StepsIn, tick_of}
pub use Rattle.step_trace.specs.Traces.{IsReceiveOf, Recorded, step_at}
pub use Rattle.step_trace.specs.declared.configurations.TheConstants.{MAX_PROCESSORS}
pub use Rattle.step_trace.specs.declared.steps.Act.{Act}
pub use Rattle.step_trace.specs.declared.steps.Step.{Step}
pub use Rattle.timed_events.proofs.Firsts.{or_none}
pub use Rattle.timed_events.proofs.FittingTraces.{ids-from, known, zip-step}
pub use Rattle.timed_events.proofs.RankedEvents.{least-moments, moment-parts}
pub use Rattle.timed_events.proofs.SortedEvents.{AreApart, place-found, places-apart, places-inside}
pub use Rattle.timed_events.specs.Checks.{HaveOwnMoments, messages_at, moment_at, moment_of, processor_at, received_in, sends_to}
pub use Rattle.timed_events.specs.IdleTicks.{AreIdle, AreReceives, HasEventIn, IsIdleReceive, IsIdleTick, IsOfNothing, ticks_of}
pub use Rattle.timed_events.specs.Orders.{AreNumbers, IsOrder}
pub use Rattle.timed_events.specs.Spreads.{AreTicks, HavePassed, IsAfterTimes, last_of}
pub use Rattle.timed_events.specs.TimedTraces.{HasSteps, IsActOf, IsStepAt, IsTraceOf, sent_number, setup_of}
pub use Rattle.timed_events.specs.Times.{last_tick, time_tick, time_ticks, times_refusal}
pub use Rattle.timed_events.specs.declared.events.Clock.{Clock}
pub use Rattle.timed_events.specs.declared.events.Event.{Event}
pub use Rattle.timed_events.specs.declared.events.EventAct.{EventAct}
pub use Rattle.timed_events.specs.declared.events.EventAct.TheVariants.{Receive, Send}
pub use Rattle.timed_events.specs.declared.idle_ticks.IdleTick.{IdleTick}
pub use Rattle.idle_laws.specs.Fillings.{AreSilent, IsFull, IsInShortSilence, IsPlain, IsSilentTick, IsSparse, Log}
