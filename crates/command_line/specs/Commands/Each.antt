-- The command `each`: what it takes, and the job that its words give.
use Rattle.std.specs.Prelude.{ℕ, ◌≡◌, List, [], ◌∷◌, Option, codes, string_bytes}
use Rattle.clap.specs.Words.{App, Row, first_of}
use Rattle.step_trace.specs.CorrectSets.{IsCorrectIn}
use Rattle.command_line.specs.declared.jobs.Job.{Job}
use Rattle.command_line.specs.declared.jobs.Job.TheVariants as job
use Rattle.command_line.specs.Answers.{Given, ◌>>=◌, answers}
use Rattle.command_line.specs.Arguments.{command_app, IsListFault, correct_rule, file_rule, tick_in, tick_rule}

-- each FILE --correct LIST --at TICK --until TICK
abbrev pub each_app : App
each_app = command_app (codes "each")
    (file_rule ∷ correct_rule ∷ tick_rule (codes "at") ∷ tick_rule (codes "until") ∷ [])

-- the bounds of each processor and link of the file of this name, for the processors that this list names, with these
-- ticks
abbrev pub IsEach : List ℕ → List ℕ → Option ℕ → Option ℕ → Job → Type 0
IsEach name list at until (job.Each j) = (string_bytes j.file ≡ name) × IsCorrectIn list j.each.correct
    × (j.each.at ≡ at) × (j.each.until ≡ until)
IsEach name list at until _ = ⊥

-- what the rows below `each` give
abbrev pub each_given : List Row → Given → Type 0
each_given rows = do
  file ← first_of (codes "file") rows
  list ← first_of (codes "correct") rows
  at ← tick_in rows (codes "at")
  until ← tick_in rows (codes "until")
  answers (IsEach file list at until) (IsListFault list)
