-- What the program makes of a trace in an upgrade.
use Rattle.std.specs.Prelude.{ℕ, ◌≡◌, List}
use Rattle.step_trace.specs.Traces.{Recorded}
use Rattle.trace_text.specs.TraceTexts.{trace_text_2}
use Rattle.text_verdicts.specs.Texts.{IsTextOf}
use Rattle.command_faults.specs.declared.faults.Fault.{Fault}

-- The text is that of the trace in version 2, which is read back as it.
pub record IsUpgradeOf (t : Recorded) (upgrade : List ℕ) : Type 0 where
  pub written : upgrade ≡ trace_text_2 t
  pub stands : IsTextOf upgrade t

-- each trace has an upgrade
abbrev pub IsNothingElse : Recorded → Fault → Type 0
IsNothingElse t _ = ⊥
