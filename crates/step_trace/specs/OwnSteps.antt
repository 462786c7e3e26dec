-- The steps of one processor (own).
use Rattle.std.specs.Prelude.{ℕ, ◌==◌, List, filter}
use Rattle.std.specs.List.{enumerate_from}
use Rattle.step_trace.specs.declared.steps.Step.{Step}

-- the steps of processor p with their numbers, in order
abbrev pub own_steps : List Step → ℕ → List (ℕ × Step)
own_steps steps p = filter (λ x. x.1.proc == p) (enumerate_from 1 steps)
