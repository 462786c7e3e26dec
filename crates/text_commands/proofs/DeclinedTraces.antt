-- The trace of a text that was read, and why a trace is declined.
use Rattle.std.proofs.Common.{ℕ, List, Option}
use Rattle.step_trace.specs.Traces.{Recorded}
use Rattle.step_buffers.specs.declared.replays.ReplayError.{ReplayError}
use Rattle.step_buffers.specs.declared.replays.ReplayError.TheVariants.{NotARun, Memory}
use Rattle.step_buffers.specs.Replays.{IsReplayRefusal}
use Rattle.shared_reading.specs.DeviceTexts.{IsTraceRead}
use Rattle.command_faults.specs.Faults.{fault_of_replay}
use Rattle.text_verdicts.specs.Texts.{IsTextOf}
use Rattle.text_commands.specs.Answers.{IsDeclined}
use Rattle.text_commands.specs.Replays.{IsOffRun}

-- the trace of a text that was read is that of the text
pub text_of : {known : Option (List ℕ)} {t : Recorded} → (r : IsTraceRead known t) → IsTextOf r.text t
text_of r = record { trace = r.trace; stands = r.stands; size = r.size }

-- a trace that isn't replayed is declined by the command
pub replay-declined : (t : Recorded) (e : ReplayError) → IsReplayRefusal t.config t.steps e → IsDeclined (IsOffRun t) (fault_of_replay e)
replay-declined t (NotARun n due) h = (h.0, h.1)
replay-declined t Memory h = tt
