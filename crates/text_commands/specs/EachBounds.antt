-- The bounds of each processor and of each link from a tick on.
use Rattle.std.specs.Prelude.{ℕ, ◌≡◌, List, Option, Some, None}
use Rattle.step_trace.specs.CorrectSets.{named}
use Rattle.step_trace.specs.Traces.{Recorded}
use Rattle.link_bounds.specs.declared.rows.BoundRow.{BoundRow}
use Rattle.link_bounds.specs.Rows.{AreRows}
use Rattle.link_bounds.specs.RowTexts.{bounds_text}
use Rattle.command_options.specs.declared.Each.{Each}
use Rattle.command_options.specs.declared.ReportPart.{ReportPart}
use Rattle.command_faults.specs.declared.faults.Fault.{Fault}
use Rattle.text_verdicts.specs.Checks.{IsCutFor}
use Rattle.text_verdicts.specs.Cuts.{IsTickOf}
use Rattle.text_commands.specs.ReportParts.{IsUntoldPart}

-- the rows are those from the tick that is asked for, which is one of the trace; from tick 1 if none is
abbrev pub AreRowsFrom : ℕ → Recorded → Option ℕ → List BoundRow → Type 0
AreRowsFrom set t None rows = AreRows set t 1 rows
AreRowsFrom set t (Some tick) rows = IsTickOf t tick × AreRows set t tick rows

-- the text is that of these rows
pub record IsEachTextOf (set : ℕ) (at : Option ℕ) (out : List ℕ) (t : Recorded) : Type 0 where
  pub rows : List BoundRow
  pub exact : AreRowsFrom set t at rows
  pub written : out ≡ bounds_text rows

-- The trace has all correct processors, and the tick up to which it is taken, if there is one. The text is that of the
-- rows of it, or of it up to the tick.
abbrev pub IsEachOf : Each → Recorded → List ℕ → Type 0
IsEachOf e t out = IsCutFor e.correct e.until (IsEachTextOf (named e.correct t.config.n) e.at out) t

-- the part of a report that is asked for by the same options
abbrev pub part_of : Each → ReportPart
part_of e = record { correct = e.correct; until = e.until; at = e.at }

-- why there is none: as for the part of a report by these options
abbrev pub IsNoEach : Each → Recorded → Fault → Type 0
IsNoEach e = IsUntoldPart (part_of e)
