-- The report of a trace.
use Rattle.std.specs.Prelude.{ℕ, ◌≡◌, List}
use Rattle.step_trace.specs.declared.rows.Row.{Row}
use Rattle.step_trace.specs.declared.correct_sets.Correct.{Correct}
use Rattle.step_trace.specs.CorrectSets.{named}
use Rattle.step_trace.specs.Traces.{Recorded}
use Rattle.step_trace.specs.Fronts.{IsReport}
use Rattle.front.specs.ReportTexts.{report_text}
use Rattle.text_verdicts.specs.Texts.{HasCorrect}

-- The text is that of the report of the trace: the front of the triples that it leaves possible for these correct
-- processors, each with its named evidence.
pub record IsReportFor (correct : Correct) (t : Recorded) (report : List ℕ) : Type 0 where
  pub within : HasCorrect correct t
  pub rows : List Row
  pub exact : IsReport (named correct t.config.n) t rows
  pub written : report ≡ report_text rows
