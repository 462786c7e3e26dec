-- The names that most proofs here cite, passed on from one place. Declares nothing.
pub use Rattle.step_trace.proofs.ListMembers.{Contains-filter, Contains-head, Contains-nil, Contains-rest}
pub use Rattle.step_trace.proofs.StepPositions.{slice_get-last, step_at-push_cases, step_at_within}
pub use Rattle.step_trace.proofs.TickOrder.{number_below, own_ticks_rise, ticks_rise}
pub use Rattle.step_trace.specs.Bounds.{DeltaHolds, PhiHolds}
pub use Rattle.step_trace.specs.Configurations.{IsProc, Setup}
pub use Rattle.step_trace.specs.Processors.{IsWithin, has_proc}
pub use Rattle.step_trace.specs.Steps.{act_dest, act_ids, act_sends}
pub use Rattle.step_trace.specs.Ticks.{IsTimed, IsTrace, tick_of}
pub use Rattle.step_trace.specs.Traces.{IsReceiveOf, IsStepOf, IsWellFormed, Recorded, step_at}
pub use Rattle.step_trace.specs.declared.steps.Act.{Act}
pub use Rattle.step_trace.specs.declared.steps.Act.TheVariants.{Receive, Send}
pub use Rattle.step_trace.specs.declared.steps.Step.{Step}
pub use Rattle.lock_phases.proofs.LockingLaws.{locking-keeps, locking-told}
pub use Rattle.lock_phases.proofs.Membership.{Contains-cons_cases}
pub use Rattle.lock_phases.proofs.RoundLaws.{out-in, part_at-acknowledging, part_at-listing, part_at-locking, part_at-releasing}
pub use Rattle.lock_phases.proofs.SendingLaws.{acknowledgement-sent, list-sent, lock-sent, locks-sent}
pub use Rattle.lock_phases.specs.Hearing.{IsToldToLock, with_proper}
pub use Rattle.lock_phases.specs.Nodes.{State}
pub use Rattle.lock_phases.specs.Rounds.{Acknowledging, Listing, Locking, Part, Releasing, owner, part_at, part_of, phase_of}
pub use Rattle.lock_phases.specs.declared.bodies.Body.{Body}
pub use Rattle.lock_phases.specs.declared.bodies.Kind.TheVariants.{Ack, Lock, Locks}
pub use Rattle.round_model.proofs.BoundedDecisions.{member-positive}
pub use Rattle.round_model.proofs.HeardLists.{Contains-processors, messages_heard-has}
pub use Rattle.round_model.proofs.ProcessorRanges.{All-range_with_len}
pub use Rattle.round_model.specs.BoundedDecision.{deciding_round}
pub use Rattle.round_model.specs.RoundStates.{processors}
pub use Rattle.step_buffers.proofs.GrownNodes.{before-now, count_by-more, next_destination-prefix}
pub use Rattle.step_buffers.proofs.HeardSenders.{IsSentIn, IsSentIn-from_test, heard_table-from_heard, is_sent_in-from_send, state_after-prefix}
pub use Rattle.step_buffers.proofs.StepPrefixes.{before-prefix, passed-before}
pub use Rattle.step_buffers.specs.HeardTables.{act_ends, before, is_sent_in, passed, round_at}
pub use Rattle.step_buffers.specs.NextSteps.{receiving}
pub use Rattle.step_buffers.specs.Origins.{round_ahead, sender_of}
pub use Rattle.step_buffers.specs.Runs.{IsRun, IsSend, node_before, sent_before}
pub use Rattle.deciding_runs.proofs.CountedRounds.{round_at-ended, round_at-passed, round_at-stays}
pub use Rattle.deciding_runs.specs.Audible.{may_hear, may_hear_all, may_hear_all_in, may_hear_in}
pub use Rattle.deciding_runs.specs.HeardOut.{HasHeardOf, HearOut, IsHeardOut, IsTakenAt, IsTakenBefore}
pub use Rattle.deciding_runs.specs.Paces.{Paced, after_receive, heard_ids, heard_message, is_complete, is_over}
pub use Rattle.deciding_runs.specs.Peers.{after_hearing, after_phase, awaited_count, heard_count, is_awaited, is_done_with, is_far_ahead, is_heard_of, is_left_behind, peer_of, unheard}
pub use Rattle.deciding_runs.specs.Together.{HasPassedBy}
pub use Rattle.deciding_runs.specs.declared.peers.Peer.{Peer}
pub use Rattle.patience_laws.specs.Gatherings.{AreAlone, HaveMet, HearThemselves, NeedAll, NoneBefore, SuspectNoneIn, longest_round, met_round, met_tick}
pub use Rattle.patience_laws.specs.LeastRounds.{AreInRoundFrom, AreInTouch, IsHeardOutByAll, KeepsBounds, OweAcknowledgements, TakeInOrder, node_in}
pub use Rattle.patience_laws.specs.Meetings.{ComeTogether, ComesTo, MeetOnce}
pub use Rattle.patience_laws.specs.PacedRuns.{StepsByPace, peer_after}
pub use Rattle.patience_laws.specs.RoundTicks.{EachEnds, HasHeardFrom, HearsMembers, IsInRoundFrom, is_step_since, may_hear_of, sends_to, steps_since}
pub use Rattle.patience_laws.specs.Silence.{Suspects, TakesNothingOf, TakesOf, WasSilent}
