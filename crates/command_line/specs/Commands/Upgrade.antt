-- The command `upgrade`: what it takes, and the job that its words give.
use Rattle.std.specs.Prelude.{ℕ, ◌≡◌, List, [], ◌∷◌, codes, string_bytes}
use Rattle.clap.specs.Words.{App, Row, Text, first_of}
use Rattle.command_line.specs.declared.jobs.Job.{Job}
use Rattle.command_line.specs.declared.jobs.Job.TheVariants as job
use Rattle.command_line.specs.Answers.{Given, ◌>>=◌, answers}
use Rattle.command_line.specs.Arguments.{command_app, IsMemory, file_rule}

-- upgrade FILE
abbrev pub upgrade_app : App
upgrade_app = command_app (codes "upgrade") (file_rule ∷ [])

-- the line `upgrade FILE`, after the program's name
abbrev pub upgrade_line : Text → Text → List Text
upgrade_line name file = name ∷ codes "upgrade" ∷ file ∷ []

-- the upgrade of the file of this name
abbrev pub IsUpgrade : List ℕ → Job → Type 0
IsUpgrade name (job.Upgrade j) = string_bytes j.file ≡ name
IsUpgrade name _ = ⊥

-- what the rows below `upgrade` give
abbrev pub upgrade_given : List Row → Given → Type 0
upgrade_given rows = do
  file ← first_of (codes "file") rows
  answers (IsUpgrade file) IsMemory
