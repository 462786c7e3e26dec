-- The command `brief`: what it takes, and the job that its words give.
use Rattle.std.specs.Prelude.{ℕ, ◌≡◌, List, [], ◌∷◌, Option, codes, string_bytes}
use Rattle.clap.specs.Words.{App, Row, first_of}
use Rattle.step_trace.specs.CorrectSets.{IsCorrectIn}
use Rattle.command_line.specs.declared.jobs.Job.{Job}
use Rattle.command_line.specs.declared.jobs.Job.TheVariants as job
use Rattle.command_line.specs.Answers.{Given, ◌>>=◌, answers}
use Rattle.command_line.specs.Arguments.{command_app, IsListFault, correct_rule, file_rule, tick_in, tick_rule}

-- brief FILE --correct LIST --until TICK
abbrev pub brief_app : App
brief_app = command_app (codes "brief") (file_rule ∷ correct_rule ∷ tick_rule (codes "until") ∷ [])

-- the brief report of the file of this name, for the processors that this list names, up to this tick if there is one
abbrev pub IsBrief : List ℕ → List ℕ → Option ℕ → Job → Type 0
IsBrief name list until (job.Brief j) = (string_bytes j.file ≡ name) × IsCorrectIn list j.brief.correct
    × (j.brief.until ≡ until)
IsBrief name list until _ = ⊥

-- what the rows below `brief` give
abbrev pub brief_given : List Row → Given → Type 0
brief_given rows = do
  file ← first_of (codes "file") rows
  list ← first_of (codes "correct") rows
  until ← tick_in rows (codes "until")
  answers (IsBrief file list until) (IsListFault list)
