-- The command `page`: what it takes, and the job that its words give.
use Rattle.std.specs.Prelude.{ℕ, ◌≡◌, ◌⊎◌, ◌++◌, if◌then◌else◌, List, [], ◌∷◌, Option}
use Rattle.std.specs.Prelude.{Some, None, codes, option_map, string_bytes}
use Rattle.std.specs.Str.{bytes_eq}
use Rattle.clap.specs.Words.{App, Row, first_of}
use Rattle.step_trace.specs.declared.correct_sets.Correct.{Correct}
use Rattle.step_trace.specs.CorrectSets.{IsCorrectIn}
use Rattle.command_options.specs.declared.TimeUnit.{TimeUnit}
use Rattle.command_options.specs.declared.TimeUnit.TheVariants as unit
use Rattle.command_line.specs.declared.jobs.Job.{Job}
use Rattle.command_line.specs.declared.jobs.Job.TheVariants as job
use Rattle.command_line.specs.declared.line_errors.LineError.{LineError}
use Rattle.command_line.specs.declared.line_errors.LineError.TheVariants as unread
use Rattle.command_line.specs.Answers.{Given, ◌>>=◌, answers}
use Rattle.command_line.specs.Arguments.{command_app, IsListFault, correct_rule, file_rule}
use Rattle.command_line.specs.Arguments.{optional_rule, tick_in, tick_rule}
use Rattle.command_line.specs.Commands.Check.{AreBothStandardInput}
use Rattle.command_line.specs.Commands.Judge.{IsOneInputRefusal}

-- page FILE --correct LIST --at TICK --names LIST --table STEPS --unit U
abbrev pub page_app : App
page_app = command_app (codes "page") (file_rule ∷ correct_rule ∷ tick_rule (codes "at") ∷ optional_rule (codes "names")
    ∷ optional_rule (codes "table") ∷ optional_rule (codes "unit") ∷ [])

-- a table comes without names, and not both files are standard input
abbrev pub FitsTable : List ℕ → Option (List ℕ) → Option (List ℕ) → Type 0
FitsTable name names None = Unit {0}
FitsTable name None (Some table) = ¬ AreBothStandardInput name table
FitsTable name (Some names) (Some table) = ⊥

-- the unit that a text names
abbrev pub named_unit : List ℕ → Option TimeUnit
named_unit name = if bytes_eq name (codes "s") then Some unit.Second
    else (if bytes_eq name (codes "ms") then Some unit.Millisecond
    else (if bytes_eq name (codes "us") then Some unit.Microsecond
    else (if bytes_eq name (codes "ns") then Some unit.Nanosecond else None)))

-- the unit that is given, if any; nothing if its text names none
abbrev pub unit_given : Option (List ℕ) → Option (Option TimeUnit)
unit_given None = Some None
unit_given (Some name) = option_map (λ u. Some u) (named_unit name)

-- the words in which a unit of another name is refused
abbrev pub bad_unit_words : List ℕ
bad_unit_words = codes "synchrony: bad --unit" ++ (10 ∷ codes "synchrony: --unit takes s, ms, us or ns")

-- there is no unit of this name; or out of memory
abbrev pub IsUnitFault : Option (List ℕ) → LineError → Type 0
IsUnitFault name (unread.Refused words) = (unit_given name ≡ None) × (string_bytes words ≡ bad_unit_words)
IsUnitFault name unread.Memory = Unit {0}

-- the page about the file of this name, for the processors of this list, with this tick, these names, the table in that
-- file, and the unit of its times
abbrev pub IsPage : List ℕ → List ℕ → Option ℕ → Option (List ℕ) → Option (List ℕ) → Option (List ℕ) → Job → Type 0
IsPage name list at names table u (job.Page j) =
    (string_bytes j.file ≡ name) × IsCorrectIn list j.page.correct × (j.page.at ≡ at)
    × (option_map string_bytes j.page.names ≡ names)
    × (option_map string_bytes j.table ≡ table) × FitsTable name names table × (unit_given u ≡ Some j.page.unit)
IsPage name list at names table u _ = ⊥

-- both names and a table are refused in these words
abbrev pub IsNamesRefusal : LineError → Type 0
IsNamesRefusal (unread.Refused text) = string_bytes text ≡ codes "synchrony: page takes either --names or --table"
IsNamesRefusal _ = ⊥

-- why a table doesn't fit; or out of memory
abbrev pub IsTableFault : List ℕ → Option (List ℕ) → Option (List ℕ) → LineError → Type 0
IsTableFault name names table unread.Memory = Unit {0}
IsTableFault name names None e = ⊥
IsTableFault name (Some names) (Some table) e = IsNamesRefusal e
IsTableFault name None (Some table) e = IsOneInputRefusal name table e

-- the refusal of a text that is no list, or else of the table, or else of the unit; or out of memory
abbrev pub IsPageFault : List ℕ → List ℕ → Option (List ℕ) → Option (List ℕ) → Option (List ℕ) → LineError → Type 0
IsPageFault name list names table u e =
    IsListFault list e ⊎ (((correct : Correct) × IsCorrectIn list correct)
    × (IsTableFault name names table e ⊎ (FitsTable name names table × IsUnitFault u e)))

-- what the rows below `page` give
abbrev pub page_given : List Row → Given → Type 0
page_given rows = do
  file ← first_of (codes "file") rows
  list ← first_of (codes "correct") rows
  at ← tick_in rows (codes "at")
  answers (IsPage file list at (first_of (codes "names") rows) (first_of (codes "table") rows)
      (first_of (codes "unit") rows))
      (IsPageFault file list (first_of (codes "names") rows) (first_of (codes "table") rows)
      (first_of (codes "unit") rows))
