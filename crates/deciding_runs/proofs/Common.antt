-- The names that most proofs here cite, passed on from one place. Declares nothing.
pub use Rattle.step_trace.proofs.ListMembers.{Contains-filter, Contains-from_filter, Contains-head, Contains-nil, Contains-rest}
pub use Rattle.step_trace.proofs.StepPositions.{step_at_last, step_at_within}
pub use Rattle.step_trace.specs.Configurations.{IsProc, IsSetup, Setup}
pub use Rattle.step_trace.specs.Processors.{IsWithin, has_proc}
pub use Rattle.step_trace.specs.Steps.{act_ids, act_sends}
pub use Rattle.step_trace.specs.Traces.{IsWellFormed, Recorded, step_at}
pub use Rattle.step_trace.specs.declared.steps.Act.{Act}
pub use Rattle.step_trace.specs.declared.steps.Step.{Step}
pub use Rattle.lock_phases.specs.Nodes.{State}
pub use Rattle.lock_phases.specs.Rounds.{Acknowledging, Listing, Locking, owner, part_of, phase_of}
pub use Rattle.lock_phases.specs.declared.bodies.Body.{Body}
pub use Rattle.round_model.proofs.BoundedDecisions.{HaveDecided-state_after, member-positive}
pub use Rattle.round_model.proofs.HeardLists.{Contains-processors}
pub use Rattle.round_model.proofs.HeardMessages.{heard_of, messages_heard-said}
pub use Rattle.round_model.proofs.ProcessorRanges.{IsStrictlyIncreasing-range_with_len, filter_map-range_with_len-agree, range_with_len-more}
pub use Rattle.round_model.proofs.RoundEquations.{state_after-next, state_after-opening}
pub use Rattle.round_model.specs.BoundedDecision.{HaveDecided, IsInTouch, deciding_round}
pub use Rattle.round_model.specs.RoundStates.{processors}
pub use Rattle.step_buffers.proofs.GrownNodes.{count_by-more, passed-ends, passed-stays}
pub use Rattle.step_buffers.proofs.HeardSenders.{Contains-numbers, IsSentIn-from_test, heard_table-from_heard, is_sent_in-from_send, state_after-prefix}
pub use Rattle.step_buffers.proofs.StepPrefixes.{passed-before, round_at-prefix}
pub use Rattle.step_buffers.specs.Buffers.{buffer, waits_for}
pub use Rattle.step_buffers.specs.HeardTables.{act_ends, before, is_sent_in, numbers, passed, round_at}
pub use Rattle.step_buffers.specs.Moves.{next_send, step_of}
pub use Rattle.step_buffers.specs.Runs.{IsRun, IsSend, node_at, node_before, sent_before}
pub use Rattle.deciding_runs.specs.Audible.{may_hear}
pub use Rattle.deciding_runs.specs.Decisions.{decision_at}
pub use Rattle.deciding_runs.specs.FilledTables.{filled}
pub use Rattle.deciding_runs.specs.HeardOut.{HasHeardOf, HearOut, IsHeardOut, IsTakenAt, IsTakenBefore, TakesAll, TakesInOrder}
pub use Rattle.deciding_runs.specs.Paces.{EndRoundsComplete, EndsComplete, Paced, WereHeard, after_move, after_receive, ends_round, heard_message, heard_waiting, is_complete, paced_move}
pub use Rattle.deciding_runs.specs.Peers.{after_hearing, after_phase, awaited_count, is_awaited, is_heard_of, peer_of, unheard}
pub use Rattle.deciding_runs.specs.RoundCounts.{AreRounds}
pub use Rattle.deciding_runs.specs.Together.{AreTogether, HasPassedBy, HavePassedBy, IsSentInRound, IsTakenInTime}
pub use Rattle.deciding_runs.specs.declared.peers.Peer.{Peer}
