-- What the program makes of a trace in a page.
use Rattle.std.specs.Prelude.{ℕ, List, Option, IfSome, option_map}
use Rattle.step_trace.specs.Traces.{Recorded}
use Rattle.command_options.specs.declared.Page.{Page}
use Rattle.command_faults.specs.declared.faults.Fault.{Fault}
use Rattle.command_faults.specs.declared.faults.Fault.TheVariants as fault
use Rattle.text_verdicts.specs.Cuts.{IsTickOf}
use Rattle.text_verdicts.specs.Texts.{HasCorrect}
use Rattle.text_commands.specs.Answers.{IsOutside}
use Rattle.text_commands.specs.Drawings.{IsNamesFault, are_names_in}
use Rattle.text_commands.specs.LogTables.{HasTable, IsTableFault}
use Rattle.text_commands.specs.ReportParts.{IsAtFault}
use Rattle.text_commands.specs.declared.pages.ToldPage.{ToldPage}

-- as many names as processors are listed, or none, and the tick that is asked for, if one is, is one of the trace
pub record IsTellable (p : Page) (t : Recorded) : Type 0 where
  pub named : are_names_in p.names t.config.n
  pub tick : IfSome p.at (IsTickOf t)

-- The trace has all correct processors; the table, if there is one, is the trace's; and there is a page about it as
-- asked. The text is left open: what a page says and looks like is only tested.
pub record IsPageBy (p : Page) (table : Option (List ℕ)) (t : Recorded) (page : List ℕ) : Type 0 where
  pub within : HasCorrect p.correct t
  pub tabled : HasTable table t
  pub tellable : IsTellable p t

-- the text of the table of a page
abbrev pub table_text_of : ToldPage → Option (List ℕ)
table_text_of p = option_map (λ text. text.items) p.table

abbrev pub IsPageOf : ToldPage → Recorded → List ℕ → Type 0
IsPageOf p = IsPageBy p.page (table_text_of p)

-- why there is no page: the names, or else the tick, or out of memory
abbrev pub IsUntellable : Page → Recorded → Fault → Type 0
IsUntellable p t (fault.Report option o) = are_names_in p.names t.config.n × IsAtFault p.at t (fault.Report option o)
IsUntellable p t w = IsNamesFault p.names t.config.n w

-- why the trace has no page: a correct processor that it hasn't, or else the table, the names, or the tick, in this
-- order
abbrev pub IsNoPageBy : Page → Option (List ℕ) → Recorded → Fault → Type 0
IsNoPageBy p table t (fault.Table why) = HasCorrect p.correct t × IsTableFault table t (fault.Table why)
IsNoPageBy p table t (fault.Picture o) = HasCorrect p.correct t × HasTable table t × IsUntellable p t (fault.Picture o)
IsNoPageBy p table t (fault.Report option o) = HasCorrect p.correct t × HasTable table t
    × IsUntellable p t (fault.Report option o)
IsNoPageBy p table t w = IsOutside p.correct t w

abbrev pub IsNoPage : ToldPage → Recorded → Fault → Type 0
IsNoPage p = IsNoPageBy p.page (table_text_of p)
