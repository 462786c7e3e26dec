-- The command `check`: what it takes, and the job that its words give.
use Rattle.std.specs.Prelude.{ℕ, ◌≡◌, ◌⊎◌, List, [], ◌∷◌, Option, codes, string_bytes}
use Rattle.clap.specs.Words.{App, Row, Text, first_of}
use Rattle.step_trace.specs.declared.correct_sets.Correct.{Correct}
use Rattle.step_trace.specs.CorrectSets.{IsCorrectIn}
use Rattle.command_line.specs.declared.jobs.Job.{Job}
use Rattle.command_line.specs.declared.jobs.Job.TheVariants as job
use Rattle.command_line.specs.declared.line_errors.LineError.{LineError}
use Rattle.command_line.specs.declared.line_errors.LineError.TheVariants as unread
use Rattle.command_line.specs.Answers.{Given, ◌>>=◌, answers}
use Rattle.command_line.specs.Arguments.{command_app, IsListFault, correct_rule, file_rule}
use Rattle.command_line.specs.Arguments.{positional_rule, tick_in, tick_rule}

-- check FILE CERT --correct LIST --until TICK
abbrev pub check_app : App
check_app = command_app (codes "check")
    (file_rule ∷ positional_rule (codes "certificate") ∷ correct_rule ∷ tick_rule (codes "until") ∷ [])

-- the line `check FILE CERT --correct LIST`, after the program's name
abbrev pub check_line : Text → Text → Text → Text → List Text
check_line name file certificate list = name ∷ codes "check" ∷ file ∷ certificate ∷ codes "--correct" ∷ list ∷ []

-- both names are that of standard input
abbrev pub AreBothStandardInput : List ℕ → List ℕ → Type 0
AreBothStandardInput a b = (a ≡ codes "-") × (b ≡ codes "-")

-- the check of these two files, which aren't both standard input, for the processors of this list, up to this tick if
-- there is one
abbrev pub IsCheck : List ℕ → List ℕ → List ℕ → Option ℕ → Job → Type 0
IsCheck name certified list until (job.Check j) =
    (string_bytes j.file ≡ name) × (string_bytes j.certificate ≡ certified) × IsCorrectIn list j.claim.correct
    × (j.claim.until ≡ until)
    × (¬ AreBothStandardInput name certified)
IsCheck name certified list until _ = ⊥

-- Both files are standard input, though the list is one.
pub record IsOneInput (name certified list text : List ℕ) : Type 0 where
  pub both : AreBothStandardInput name certified
  pub correct : Correct
  pub listed : IsCorrectIn list correct
  pub told : text ≡ codes "synchrony: only one file can be -"

-- the refusal of a text that is no list, or else of two files that are both standard input; or out of memory
abbrev pub IsFilesFault : List ℕ → List ℕ → List ℕ → LineError → Type 0
IsFilesFault name certified list (unread.Refused text) = IsListFault list (unread.Refused text)
    ⊎ IsOneInput name certified list (string_bytes text)
IsFilesFault name certified list unread.Memory = Unit {0}

-- what the rows below `check` give
abbrev pub check_given : List Row → Given → Type 0
check_given rows = do
  file ← first_of (codes "file") rows
  certificate ← first_of (codes "certificate") rows
  list ← first_of (codes "correct") rows
  until ← tick_in rows (codes "until")
  answers (IsCheck file certificate list until) (IsFilesFault file certificate list)
