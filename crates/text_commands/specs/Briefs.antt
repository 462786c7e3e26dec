-- The rows of a report at which other evidence is named.
use Rattle.std.specs.Prelude.{ℕ, ◌≡◌, List, [], ◌∷◌, Option, Some, None, Bool}
use Rattle.std.specs.Prelude.{true, false, not, ◌==◌, ◌&&◌, if◌then◌else◌}
use Rattle.step_trace.specs.declared.rows.Row.{Row}
use Rattle.step_trace.specs.declared.rows.Miss.{Miss}
use Rattle.step_trace.specs.declared.rows.Gap.{Gap}
use Rattle.step_trace.specs.CorrectSets.{named}
use Rattle.step_trace.specs.Traces.{Recorded}
use Rattle.step_trace.specs.Fronts.{IsReport}
use Rattle.front.specs.ReportTexts.{report_text}
use Rattle.command_options.specs.declared.Brief.{Brief}
use Rattle.command_faults.specs.declared.faults.Fault.{Fault}
use Rattle.text_verdicts.specs.Checks.{IsCutFor}
use Rattle.text_commands.specs.Checks.{IsUncutAt}

-- the same message was missed at the same Receive, or none
abbrev pub same_miss : Option Miss → Option Miss → Bool
same_miss None None = true
same_miss (Some a) (Some b) = (a.sent == b.sent) && (a.missed == b.missed)
same_miss _ _ = false

-- the same processor is silent up to the same tick, or none; a silence that goes on from row to row only begins later
abbrev pub same_silence : Option Gap → Option Gap → Bool
same_silence None None = true
same_silence (Some a) (Some b) = (a.proc == b.proc) && (a.to == b.to)
same_silence _ _ = false

-- whether a row names other evidence than the row before it, if there is one
abbrev pub names_other : Option Row → Row → Bool
names_other None row = true
names_other (Some before) row = not (same_miss before.miss row.miss && same_silence before.gap row.gap)

-- the rows that do, in their order, if this row comes before them
abbrev pub brief_after : Option Row → List Row → List Row
brief_after before [] = []
brief_after before (row ∷ rows) = if names_other before row then row
    ∷ brief_after (Some row) rows else brief_after (Some row) rows

-- the text is that of the brief rows of the trace's report
pub record IsBriefTextOf (set : ℕ) (out : List ℕ) (t : Recorded) : Type 0 where
  pub rows : List Row
  pub report : IsReport set t rows
  pub written : out ≡ report_text (brief_after None rows)

-- The trace has all correct processors, and the tick if there is one. The text is that of the brief rows of its report,
-- or of its report up to the tick.
abbrev pub IsBriefOf : Brief → Recorded → List ℕ → Type 0
IsBriefOf b t out = IsCutFor b.correct b.until (IsBriefTextOf (named b.correct t.config.n) out) t

-- why there is no brief report: a correct processor that the trace hasn't, or else a tick
abbrev pub IsNoBrief : Brief → Recorded → Fault → Type 0
IsNoBrief b = IsUncutAt b.correct b.until
