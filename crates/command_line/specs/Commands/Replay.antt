-- The command `replay`: what it takes, and the job that its words give.
use Rattle.std.specs.Prelude.{ℕ, ◌≡◌, List, [], ◌∷◌, codes, string_bytes}
use Rattle.clap.specs.Words.{App, Row, Text, first_of}
use Rattle.command_line.specs.declared.jobs.Job.{Job}
use Rattle.command_line.specs.declared.jobs.Job.TheVariants as job
use Rattle.command_line.specs.Answers.{Given, ◌>>=◌, answers}
use Rattle.command_line.specs.Arguments.{command_app, IsMemory, file_rule}

-- replay FILE
abbrev pub replay_app : App
replay_app = command_app (codes "replay") (file_rule ∷ [])

-- the line `replay FILE`, after the program's name
abbrev pub replay_line : Text → Text → List Text
replay_line name file = name ∷ codes "replay" ∷ file ∷ []

-- the replay of the file of this name
abbrev pub IsReplay : List ℕ → Job → Type 0
IsReplay name (job.Replay j) = string_bytes j.file ≡ name
IsReplay name _ = ⊥

-- what the rows below `replay` give
abbrev pub replay_given : List Row → Given → Type 0
replay_given rows = do
  file ← first_of (codes "file") rows
  answers (IsReplay file) IsMemory
