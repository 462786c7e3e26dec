-- The names that most proofs here cite, passed on from one place. Declares nothing.
pub use Rattle.step_trace.proofs.FittingSteps.{Fits-from_well_formed, find-none, is_proc-true, is_rising-from_increasing, none_from_Fits}
pub use Rattle.step_trace.proofs.Growth.{IsWellFormed-push}
pub use Rattle.step_trace.proofs.ListMembers.{Contains-filter, Contains-from_filter, Contains-from_map, Contains-head}
pub use Rattle.step_trace.proofs.ListMembers.{Contains-map, Contains-nil, Contains-rest, list_any-at, list_any-found}
pub use Rattle.step_trace.proofs.ListMembers.{rising-first, rising-tail}
pub use Rattle.step_trace.proofs.NamedReasons.{failing, found}
pub use Rattle.step_trace.proofs.Refusals.{Fits-from_none, find_all, is_rising-true, sent_from}
pub use Rattle.step_trace.proofs.StepPositions.{act_takes-from_Contains, slice_get-push_cases, step_at-push_cases, step_at_last, step_at_within, taken_at-from_is_taken, taken_from_at}
pub use Rattle.step_trace.specs.Configurations.{IsProc, IsSetup, Setup, is_proc}
pub use Rattle.step_trace.specs.PushRefusals.{IsLeastFailing, is_rising, is_sent_to, is_taken, refusal}
pub use Rattle.step_trace.specs.Steps.{act_dest, act_ids, act_sends, act_sends_to, act_takes}
pub use Rattle.step_trace.specs.Traces.{IsSentTo, IsWellFormed, Recorded, TakesAt, step_at}
pub use Rattle.step_trace.specs.declared.steps.Act.TheVariants.{Receive, Send}
pub use Rattle.step_trace.specs.declared.steps.Step.{Step}
pub use Rattle.step_trace.specs.declared.traces.TheConstants.{MAX_STEPS}
pub use Rattle.lock_phases.specs.Nodes.{State, opening}
pub use Rattle.lock_phases.specs.declared.bodies.Body.{Body}
pub use Rattle.round_model.proofs.ProcessorRanges.{All-range_with_len, IsStrictlyIncreasing-range_with_len, filter_map-range_with_len-more, range_with_len-more}
pub use Rattle.round_model.proofs.RoundEquations.{state_after-next, state_after-opening}
pub use Rattle.round_model.proofs.SettledStates.{IsSettled, messages_heard-local, state_after-settled}
pub use Rattle.round_model.specs.RoundStates.{initial_value, processors}
pub use Rattle.step_buffers.specs.Buffers.{buffer, waits_for}
pub use Rattle.step_buffers.specs.Dues.{due_for}
pub use Rattle.step_buffers.specs.HeardTables.{act_ends, before, is_sent_in, numbers, passed, round_at}
pub use Rattle.step_buffers.specs.Inboxes.{Entry, Held, IsEntered, IsMoved, ahead, ids_of, is_ahead, kept_ids, kept_of}
pub use Rattle.step_buffers.specs.Letters.{body_from, heard_from, heard_in, letter_at, letter_left, of_round, round_of, said_by}
pub use Rattle.step_buffers.specs.Moves.{IsStepRefusal, is_in, move_refusal, named_ids, next_send, step_refusal, take_refusal, taken_ids}
pub use Rattle.step_buffers.specs.NextSteps.{IsGrown, receiving, sending}
pub use Rattle.step_buffers.specs.Runs.{IsDue, IsRun, IsSend, body_of, destination_after, destinations, node_at, sent_before}
pub use Rattle.step_buffers.specs.Worlds.{AreEach, AreLetters, AreProcessors, IsDecidedSince, IsEntry, IsInbox, IsKept}
pub use Rattle.step_buffers.specs.Worlds.{IsKeptOrPast, IsLetter, IsPacedRun, IsPlaceOf, IsProcessor, IsSaid}
pub use Rattle.step_buffers.specs.Worlds.{IsStanding, IsWorld, Serves}
pub use Rattle.step_buffers.specs.declared.letters.Letter.{Letter}
pub use Rattle.step_buffers.specs.declared.moves.StepError.{StepError}
pub use Rattle.step_buffers.specs.declared.moves.StepError.TheVariants.{BadProc, Full, IdsNotRising, NotInBuffer, NothingToSend, StillSending}
pub use Rattle.step_buffers.specs.declared.moves.Take.{Take}
pub use Rattle.step_buffers.specs.declared.moves.Take.TheVariants.{All, Nothing, Oldest, These}
