-- What the program makes of a trace in a replay.
use Rattle.std.specs.Prelude.{ℕ, ◌≡◌, List, Some}
use Rattle.step_trace.specs.Traces.{Recorded}
use Rattle.step_buffers.specs.Runs.{IsRun}
use Rattle.step_buffers.specs.Dues.{IsDueInstead}
use Rattle.step_buffers.specs.Replays.{IsFirstOff}
use Rattle.command_faults.specs.declared.faults.Fault.{Fault}
use Rattle.command_faults.specs.declared.faults.Fault.TheVariants as fault
use Rattle.text_commands.specs.ReplayTexts.{replay_text}

-- The trace is a run, and the text is that of its replay.
pub record IsReplayOf (t : Recorded) (replay : List ℕ) : Type 0 where
  pub run : IsRun t.config t.steps
  pub written : replay ≡ replay_text t.config t.steps

-- why a trace has no replay: its step of this number is the first that is none of a run; its processor had to do this
abbrev pub IsOffRun : Recorded → Fault → Type 0
IsOffRun t (fault.NotARun number (Some due)) = IsFirstOff t.config t.steps number
    × IsDueInstead t.config t.steps number due
IsOffRun t _ = ⊥
