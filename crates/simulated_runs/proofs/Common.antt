-- The names that most proofs here cite, passed on from one place. Declares nothing.
pub use Rattle.step_trace.proofs.ListMembers.{Contains-cons_cases, Contains-filter, Contains-from_filter, Contains-from_map, Contains-head, Contains-map, Contains-nil, Contains-slice_get, list_any-at}
pub use Rattle.step_trace.proofs.StepPositions.{slice_get-last, slice_get-push_cases, slice_get-push_old, step_at-push_cases, step_at-push_old, step_at_last, step_at_within, taken_at-from_is_taken}
pub use Rattle.step_trace.specs.Configurations.{IsSetup, Setup}
pub use Rattle.step_trace.specs.Traces.{IsReceiveOf, IsSentTo, IsStepOf, IsWellFormed, Recorded, step_at}
pub use Rattle.step_trace.specs.declared.steps.Act.TheVariants.{Receive, Send}
pub use Rattle.step_trace.specs.declared.steps.Step.{Step}
pub use Rattle.command_options.specs.Simulations.{IsUp, is_crash_of, is_live, live}
pub use Rattle.command_options.specs.declared.simulations.Crash.{Crash}
pub use Rattle.command_options.specs.declared.simulations.StatedBounds.{StatedBounds}
pub use Rattle.round_model.proofs.HeardMessages.{IsProc-from_processors}
pub use Rattle.step_buffers.proofs.BufferSteps.{IsWaiting-from_buffer, buffer-received, buffer-sent_elsewhere, buffer-sent_to}
pub use Rattle.step_buffers.specs.Buffers.{buffer, waits_for}
pub use Rattle.step_buffers.specs.NextSteps.{receiving, sending}
pub use Rattle.simulated_runs.specs.Crashes.{IsSomeUp, IsUpIn, StepBeforeCrashes, last_tick, lasts_of}
pub use Rattle.simulated_runs.specs.KeptBounds.{AreLive, DeltaGoesOn, IsLive, IsSinceStep, IsTakenBy, KeepsDelta, KeepsPhi, StepsFrom}
pub use Rattle.simulated_runs.specs.Posts.{IsPosted, tray_of, with_tray}
pub use Rattle.simulated_runs.specs.Simulations.{AreOpeningTurns, HasRun, IsReady, IsStepped}
pub use Rattle.simulated_runs.specs.Trays.{due_ids, ids_of, is_due, not_due}
pub use Rattle.simulated_runs.specs.Turns.{AreInTime, ArePassed, HasTurn, IsFirstTurn, IsTurnIn, MayStep, next_turn}
pub use Rattle.simulated_runs.specs.UnderWay.{AreUnderWay, IsUnderWay}
pub use Rattle.simulated_runs.specs.declared.simulations.Simulation.{Simulation}
pub use Rattle.simulated_runs.specs.declared.trays.Posted.{Posted}
pub use Rattle.simulated_runs.specs.declared.turns.Turn.{Turn}
