-- The command `draw`: what it takes, and the job that its words give.
use Rattle.std.specs.Prelude.{ℕ, ◌≡◌, List, [], ◌∷◌, Option, Some, None, codes, option_map, string_bytes}
use Rattle.clap.specs.Words.{App, Row, Text, first_of}
use Rattle.step_trace.specs.CorrectSets.{IsCorrectIn}
use Rattle.command_line.specs.declared.jobs.Job.{Job}
use Rattle.command_line.specs.declared.jobs.Job.TheVariants as job
use Rattle.command_line.specs.declared.line_errors.LineError.{LineError}
use Rattle.command_line.specs.Answers.{Given, ◌>>=◌, answers}
use Rattle.command_line.specs.Arguments.{command_app, correct_rule, file_rule, optional_rule, tick_in, tick_rule}
use Rattle.command_line.specs.Commands.Page.{FitsTable, IsPageFault, unit_given}

-- draw FILE --correct LIST --from TICK --to TICK --names LIST --lanes LIST --table STEPS --unit U
abbrev pub draw_app : App
draw_app = command_app (codes "draw") (file_rule ∷ correct_rule ∷ tick_rule (codes "from")
    ∷ tick_rule (codes "to") ∷ optional_rule (codes "names") ∷ optional_rule (codes "lanes")
    ∷ optional_rule (codes "table") ∷ optional_rule (codes "unit") ∷ [])

-- the line `draw FILE --correct LIST`, after the program's name
abbrev pub draw_line : Text → Text → Text → List Text
draw_line name file list = name ∷ codes "draw" ∷ file ∷ codes "--correct" ∷ list ∷ []

-- the picture of the file of this name, for the processors that this list names, with these ticks, names and lanes, the
-- table in the file of that name, and the unit of its times
abbrev pub IsDraw : List ℕ → List ℕ → Option ℕ → Option ℕ → Option (List ℕ) → Option (List ℕ) → Option (List ℕ)
    → Option (List ℕ) → Job → Type 0
IsDraw name list from to names lanes table u (job.Draw j) =
    (string_bytes j.file ≡ name) × IsCorrectIn list j.drawing.correct × (j.drawing.from ≡ from) × (j.drawing.to ≡ to)
    × (option_map string_bytes j.drawing.names ≡ names) × (option_map string_bytes j.drawing.lanes ≡ lanes)
    × (option_map string_bytes j.table ≡ table) × FitsTable name None table × (unit_given u ≡ Some j.drawing.unit)
IsDraw name list from to names lanes table u _ = ⊥

-- the refusals of a page without names: of the list, or else of the table, or else of the unit
abbrev pub IsDrawFault : List ℕ → List ℕ → Option (List ℕ) → Option (List ℕ) → LineError → Type 0
IsDrawFault name list table u = IsPageFault name list None table u

-- what the rows below `draw` give
abbrev pub draw_given : List Row → Given → Type 0
draw_given rows = do
  file ← first_of (codes "file") rows
  list ← first_of (codes "correct") rows
  from ← tick_in rows (codes "from")
  to ← tick_in rows (codes "to")
  answers (IsDraw file list from to (first_of (codes "names") rows) (first_of (codes "lanes") rows)
      (first_of (codes "table") rows) (first_of (codes "unit") rows))
      (IsDrawFault file list (first_of (codes "table") rows) (first_of (codes "unit") rows))
