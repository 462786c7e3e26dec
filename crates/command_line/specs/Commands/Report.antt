-- The command `report`: what it takes, and the job that its words give.
use Rattle.std.specs.Prelude.{ℕ, ◌≡◌, List, [], ◌∷◌, Option, Some, codes, string_bytes}
use Rattle.clap.specs.Words.{App, Row, Rule, Text, first_of}
use Rattle.clap.specs.declared.builder.value_parser.ValueParser.TheVariants as vp
use Rattle.step_trace.specs.CorrectSets.{IsCorrectIn}
use Rattle.command_line.specs.declared.jobs.Job.{Job}
use Rattle.command_line.specs.declared.jobs.Job.TheVariants as job
use Rattle.command_options.specs.declared.TheConstants.{MAX_WORKERS}
use Rattle.command_line.specs.Answers.{Given, ◌>>=◌, answers}
use Rattle.command_line.specs.Arguments.{command_app, IsListFault, correct_rule, file_rule}
use Rattle.command_line.specs.Arguments.{number_in, optional_rule, tick_in, tick_rule}

-- --workers W, a number within its bounds; 1 if it is left out
abbrev pub workers_rule : Rule
workers_rule =
    record (optional_rule (codes "workers")) { defaults = codes "1" ∷ []; parser = Some (vp.Unsigned 1 MAX_WORKERS) }

-- report FILE --correct LIST --workers W --until TICK --at TICK
abbrev pub report_app : App
report_app = command_app (codes "report")
    (file_rule ∷ correct_rule ∷ workers_rule ∷ tick_rule (codes "until") ∷ tick_rule (codes "at") ∷ [])

-- the line `report FILE --correct LIST`, after the program's name
abbrev pub report_line : Text → Text → Text → List Text
report_line name file list = name ∷ codes "report" ∷ file ∷ codes "--correct" ∷ list ∷ []

-- the report of the file of this name, for the processors that this list names, by so many workers, with these ticks
abbrev pub IsReport : List ℕ → List ℕ → ℕ → Option ℕ → Option ℕ → Job → Type 0
IsReport name list workers until at (job.Report j) =
    (string_bytes j.file ≡ name) × IsCorrectIn list j.part.correct × (j.part.until ≡ until) × (j.part.at ≡ at)
    × (j.workers.count ≡ workers)
IsReport name list workers until at _ = ⊥

-- what the rows below `report` give
abbrev pub report_given : List Row → Given → Type 0
report_given rows = do
  file ← first_of (codes "file") rows
  list ← first_of (codes "correct") rows
  workers ← number_in rows (codes "workers") 1 MAX_WORKERS
  until ← tick_in rows (codes "until")
  at ← tick_in rows (codes "at")
  answers (IsReport file list workers until at) (IsListFault list)
