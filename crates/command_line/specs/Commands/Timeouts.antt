-- The command `timeouts`: what it takes, and the job that its words give.
use Rattle.std.specs.Prelude.{ℕ, ◌≡◌, List, [], ◌∷◌, Option, Some, None, codes, string_bytes}
use Rattle.clap.specs.Words.{App, Row, first_of}
use Rattle.step_trace.specs.declared.correct_sets.Correct.{Correct}
use Rattle.step_trace.specs.declared.processors.TheConstants.{MAX_MEMBER}
use Rattle.step_trace.specs.CorrectSets.{IsCorrectIn}
use Rattle.command_options.specs.declared.TheConstants.{MAX_TURNS}
use Rattle.command_line.specs.declared.jobs.Job.{Job}
use Rattle.command_line.specs.declared.jobs.Job.TheVariants as job
use Rattle.command_line.specs.declared.line_errors.LineError.{LineError}
use Rattle.command_line.specs.Answers.{Given, ◌>>=◌, answers}
use Rattle.command_line.specs.Arguments.{command_app, IsListFaultOf, IsMemory, file_rule, number_in, number_rule}
use Rattle.command_line.specs.Arguments.{optional_number_in, optional_number_rule, optional_rule, tick_in, tick_rule}

-- timeouts FILE --from P --to LIST --every K --polls M --until TICK --at TICK
abbrev pub timeouts_app : App
timeouts_app = command_app (codes "timeouts") (file_rule ∷ number_rule (codes "from") 1 MAX_MEMBER
    ∷ optional_rule (codes "to") ∷ optional_number_rule (codes "every") 1 MAX_TURNS
    ∷ optional_number_rule (codes "polls") 1 MAX_TURNS ∷ tick_rule (codes "until") ∷ tick_rule (codes "at") ∷ [])

-- the followers that a list names, if there is one
abbrev pub AreNamed : Option (List ℕ) → Option Correct → Type 0
AreNamed None to = to ≡ None
AreNamed (Some list) None = ⊥
AreNamed (Some list) (Some named) = IsCorrectIn list named

-- there is a list, and it is refused; or out of memory
abbrev pub IsToFault : Option (List ℕ) → LineError → Type 0
IsToFault None why = IsMemory why
IsToFault (Some list) why = IsListFaultOf (codes "to") list why

-- the timeouts of the followers that this list names, of this leader, with these numbers of steps and these ticks
abbrev pub IsTimeouts : List ℕ → ℕ → Option (List ℕ) → Option ℕ → Option ℕ → Option ℕ → Option ℕ → Job → Type 0
IsTimeouts name from list every polls until at (job.Timeouts j) =
    (string_bytes j.file ≡ name) × (j.table.from ≡ from) × AreNamed list j.table.to × (j.table.every ≡ every)
    × (j.table.polls ≡ polls)
    × (j.table.until ≡ until) × (j.table.at ≡ at)
IsTimeouts name from list every polls until at _ = ⊥

-- what the rows below `timeouts` give
abbrev pub timeouts_given : List Row → Given → Type 0
timeouts_given rows = do
  file ← first_of (codes "file") rows
  from ← number_in rows (codes "from") 1 MAX_MEMBER
  every ← optional_number_in rows (codes "every") 1 MAX_TURNS
  polls ← optional_number_in rows (codes "polls") 1 MAX_TURNS
  until ← tick_in rows (codes "until")
  at ← tick_in rows (codes "at")
  answers (IsTimeouts file from (first_of (codes "to") rows) every polls until at)
      (IsToFault (first_of (codes "to") rows))
