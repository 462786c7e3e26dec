-- The command `run`: what it takes, and the job that its words give.
use Rattle.std.specs.Prelude.{[], ◌∷◌, ◌-◌, ◌^◌, List, codes}
use Rattle.clap.specs.Words.{App, Row, first_of}
use Rattle.step_trace.specs.declared.traces.TheConstants.{MAX_STEPS}
use Rattle.command_line.specs.declared.jobs.run.TheConstants.{MAX_PATIENCE}
use Rattle.command_line.specs.Answers.{Given, ◌>>=◌, answers}
use Rattle.command_line.specs.Arguments.{command_app, number_in, number_rule, option_rule, optional_number_in}
use Rattle.command_line.specs.Arguments.{optional_number_rule, optional_rule}
use Rattle.command_line.specs.RunJobs.{IsRunFault, IsRunJob}

-- run --nodes N --faults T --values V1,..,VN --pace NAME --patience P --steps S --until decided --follow LIST
abbrev pub run_app : App
run_app = command_app (codes "run") (number_rule (codes "nodes") 0 (2 ^ 64 - 1)
    ∷ number_rule (codes "faults") 0 (2 ^ 64 - 1) ∷ option_rule (codes "values")
    ∷ optional_rule (codes "pace") ∷ optional_number_rule (codes "patience") 1 MAX_PATIENCE
    ∷ number_rule (codes "steps") 0 MAX_STEPS ∷ optional_rule (codes "until")
    ∷ optional_rule (codes "follow") ∷ [])

-- what the rows below `run` give
abbrev pub run_given : List Row → Given → Type 0
run_given rows = do
  n ← number_in rows (codes "nodes") 0 (2 ^ 64 - 1)
  t ← number_in rows (codes "faults") 0 (2 ^ 64 - 1)
  values ← first_of (codes "values") rows
  patience ← optional_number_in rows (codes "patience") 1 MAX_PATIENCE
  steps ← number_in rows (codes "steps") 0 MAX_STEPS
  answers (IsRunJob n t values (first_of (codes "pace") rows) patience steps (first_of (codes "until") rows)
      (first_of (codes "follow") rows))
      (IsRunFault n t values (first_of (codes "pace") rows) patience steps (first_of (codes "until") rows)
      (first_of (codes "follow") rows))
