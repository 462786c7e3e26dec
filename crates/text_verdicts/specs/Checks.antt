-- The verdict on a certificate's text by a trace.
use Rattle.std.specs.Prelude.{ℕ, ◌≡◌, ◌≤◌, List, length, Option, Err}
use Rattle.step_trace.specs.declared.rows.Row.{Row}
use Rattle.step_trace.specs.declared.correct_sets.Correct.{Correct}
use Rattle.step_trace.specs.CorrectSets.{named}
use Rattle.step_trace.specs.Traces.{Recorded}
use Rattle.certificate_checker.specs.declared.verdicts.Verdict.{Verdict}
use Rattle.certificate_checker.specs.Verdicts.{IsVerdict}
use Rattle.trace_text.specs.declared.byte_loops.TheConstants.{MAX_TEXT_BYTES}
use Rattle.front.specs.declared.refusals.ReportError.{ReportError}
use Rattle.front.specs.ReportRefusals.{rows_of_text}
use Rattle.front.specs.ReportTexts.{StandsFor}
use Rattle.text_verdicts.specs.Cuts.{IsReportedTo}
use Rattle.text_verdicts.specs.Texts.{HasCorrect}

-- The trace has all correct processors, and the tick if there is one; and of it, or of it cut at the tick, this holds.
pub record IsCutFor (correct : Correct) (until : Option ℕ) (Holds : Recorded → Type 0) (t : Recorded) : Type 0 where
  pub within : HasCorrect correct t
  pub reported : Recorded
  pub until_is : IsReportedTo until t reported
  pub holds : Holds reported

-- The certificate's text encodes rows, on which this is the verdict by the trace.
pub record IsJudged (set : ℕ) (certificate : List ℕ) (v : Verdict) (t : Recorded) : Type 0 where
  pub rows : List Row
  pub stands : StandsFor certificate rows
  pub size : length certificate ≤ MAX_TEXT_BYTES
  pub exact : IsVerdict set t rows v

-- this is the verdict on the certificate's text by the trace, or by the trace cut at a tick
abbrev pub IsVerdictOn : Correct → Option ℕ → List ℕ → Verdict → Recorded → Type 0
IsVerdictOn correct until certificate v t = IsCutFor correct until (IsJudged (named correct t.config.n) certificate v) t

-- nothing is wrong with the trace, the correct processors and the tick; but the certificate is refused for this reason
abbrev pub IsUncertified : Correct → Option ℕ → List ℕ → ReportError → Recorded → Type 0
IsUncertified correct until certificate reason t =
    IsCutFor correct until (λ reported. rows_of_text certificate ≡ Err reason) t
