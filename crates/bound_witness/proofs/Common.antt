-- The names that most proofs here cite, passed on from one place. Declares nothing.
pub use Rattle.step_trace.proofs.BoundLaws.{DeltaHolds-past_end, Gap-same, IsLeastBound-none_below, IsMessage-receiver, Miss-same, MissRefutes-sound}
pub use Rattle.step_trace.proofs.StepPositions.{step_at_within}
pub use Rattle.step_trace.proofs.TickOrder.{own_ticks_rise, ticks_rise}
pub use Rattle.step_trace.proofs.TickPositions.{tick_of-limit}
pub use Rattle.step_trace.specs.Bounds.{DeltaHolds, DeltaHoldsFor, IsDelivered, IsDelta, IsMessage, IsPhi, PhiHolds, StepsWithin}
pub use Rattle.step_trace.specs.Processors.{IsWithin, has_proc}
pub use Rattle.step_trace.specs.Ticks.{IsTimed, StepsIn, tick_of}
pub use Rattle.step_trace.specs.Traces.{IsReceiveOf, IsStepOf, Recorded, TakesAt}
pub use Rattle.step_trace.specs.Witnesses.{IsGap, IsMiss, IsNamedGap, IsNamedMiss, NamesGap, NamesMiss}
pub use Rattle.step_trace.specs.declared.rows.Gap.{Gap}
pub use Rattle.step_trace.specs.declared.rows.Miss.{Miss}
pub use Rattle.bound_witness.specs.LongestGaps.{BeginsBy, IsLongestGap, ListsGapsBy, Precedes, gap_between}
pub use Rattle.bound_witness.specs.WitnessSearches.{AllStepWithin, HasNoMissOf, IsFirstSilent, IsMissOf, IsMissOfSent, SentHasNoMissOf}
