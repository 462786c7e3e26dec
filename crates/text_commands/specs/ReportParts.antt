-- What the program makes of a trace in a part of its report.
use Rattle.std.specs.Prelude.{ℕ, ◌≡◌, List, [], ◌∷◌, Option, Some, None, ⊤}
use Rattle.step_trace.specs.declared.rows.Row.{Row}
use Rattle.step_trace.specs.CorrectSets.{named}
use Rattle.step_trace.specs.Traces.{Recorded}
use Rattle.step_trace.specs.Fronts.{IsReport}
use Rattle.front.specs.Reports.{Serves, row_at}
use Rattle.front.specs.ReportTexts.{report_text}
use Rattle.text_verdicts.specs.Cuts.{IsReportedTo, IsTickOf}
use Rattle.text_verdicts.specs.Texts.{HasCorrect}
use Rattle.command_faults.specs.declared.faults.Fault.{Fault}
use Rattle.command_faults.specs.declared.faults.Fault.TheVariants as fault
use Rattle.command_faults.specs.declared.faults.ReportOption.{ReportOption}
use Rattle.command_faults.specs.declared.faults.ReportOption.TheVariants as option
use Rattle.command_faults.specs.declared.faults.TickOutside.{TickOutside}
use Rattle.command_options.specs.declared.ReportPart.{ReportPart}
use Rattle.text_commands.specs.Answers.{IsOutside}

-- The tick that is asked for is none of the trace; that tick is reported, and the last one of the trace.
pub record IsNoTickOf (asked : Option ℕ) (t : Recorded) (o : TickOutside) : Type 0 where
  pub asked_is : asked ≡ Some o.tick
  pub outside : ¬ IsTickOf t o.tick
  pub last : o.last ≡ t.last

-- The row is the one of the trace's report that applies to this tick: the last that begins at it or before.
pub record IsRowAt (set : ℕ) (t : Recorded) (tick : ℕ) (row : Row) : Type 0 where
  pub rows : List Row
  pub report : IsReport set t rows
  pub inside : IsTickOf t tick
  pub last : row_at (record { len = t.last; rows = rows }) tick ≡ Some row
  pub serves : Serves set t tick row

-- the rows are the report of the trace, or the one of its rows that applies to a tick
abbrev pub AreRowsFor : ℕ → Recorded → Option ℕ → List Row → Type 0
AreRowsFor set t None rows = IsReport set t rows
AreRowsFor set t (Some tick) rows = (row : Row) × IsRowAt set t tick row × (rows ≡ row ∷ [])

-- The text is that of these rows.
pub record IsTextFor (set : ℕ) (t : Recorded) (at : Option ℕ) (out : List ℕ) : Type 0 where
  pub rows : List Row
  pub exact : AreRowsFor set t at rows
  pub written : out ≡ report_text rows

-- The trace has all correct processors. The text is that of the rows that are asked for, of the report of the trace up
-- to the tick that is asked for.
pub record IsPartOfReport (part : ReportPart) (t : Recorded) (out : List ℕ) : Type 0 where
  pub within : HasCorrect part.correct t
  pub reported : Recorded
  pub until : IsReportedTo part.until t reported
  pub told : IsTextFor (named part.correct t.config.n) reported part.at out

-- which tick the trace hasn't: the one up to which it is to be reported, or, up to that, the one whose row is asked for
abbrev pub IsTickOutsideFor : ReportPart → Recorded → ReportOption → TickOutside → Type 0
IsTickOutsideFor part t option.Until o = IsNoTickOf part.until t o
IsTickOutsideFor part t option.At o = (reported : Recorded) × IsReportedTo part.until t reported
    × IsNoTickOf part.at reported o
IsTickOutsideFor part t option.Start o = ⊥

-- a fault of the trace to be reported
abbrev pub IsUntilFault : Option ℕ → Recorded → Fault → Type 0
IsUntilFault until t (fault.Report option.Until o) = IsNoTickOf until t o
IsUntilFault until t fault.Memory = ⊤
IsUntilFault until t _ = ⊥

-- a fault of the row to be printed
abbrev pub IsAtFault : Option ℕ → Recorded → Fault → Type 0
IsAtFault at t (fault.Report option.At o) = IsNoTickOf at t o
IsAtFault at t fault.Memory = ⊤
IsAtFault at t _ = ⊥

-- why there is no part of a report: a correct processor that the trace hasn't, or else a tick
abbrev pub IsUntoldPart : ReportPart → Recorded → Fault → Type 0
IsUntoldPart part t (fault.Report which o) = HasCorrect part.correct t × IsTickOutsideFor part t which o
IsUntoldPart part t w = IsOutside part.correct t w
