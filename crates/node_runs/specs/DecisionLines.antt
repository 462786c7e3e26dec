-- The lines that report who decided in a run (docs/FORMATS.md).
use Rattle.std.specs.Prelude.{ℕ, List, [], ◌∷◌, ◌++◌, Bool, nat_lt, length, filter, flat_map, codes, decimal}
use Rattle.step_trace.specs.declared.steps.Step.{Step}
use Rattle.step_trace.specs.Configurations.{Setup}
use Rattle.deciding_runs.specs.declared.decisions.Decision.{Decision}
use Rattle.deciding_runs.specs.Decisions.{decisions}

-- who decided what, and in which tick; in a run a step's number is its tick
abbrev pub decision_words : Decision → List ℕ
decision_words d = codes "; "
    ++ (decimal d.processor ++ (codes " decided " ++ (decimal d.value ++ (codes " in tick " ++ decimal d.step))))

-- how many of the processors decided
abbrev pub count_words : ℕ → ℕ → List ℕ
count_words some all = codes "synchrony: "
    ++ (decimal some ++ (codes " of " ++ (decimal all ++ codes " processors decided")))

-- how many decided of all, and these decisions, in their order, with a line feed
abbrev pub decided_line : ℕ → ℕ → List Decision → List ℕ
decided_line some all ds = (count_words some all ++ flat_map decision_words ds) ++ 10 ∷ []

-- the line of all decisions
abbrev pub all_decided : ℕ → List Decision → List ℕ
all_decided all ds = decided_line (length ds) all ds

-- the line of a run
abbrev pub told_decisions : Setup → List Step → List ℕ
told_decisions c steps = all_decided c.n (decisions c steps)

-- whether it was decided after so many steps
abbrev pub is_later : ℕ → Decision → Bool
is_later since d = nat_lt since d.step

-- the line of these, if there are any
abbrev pub line_of_any : ℕ → ℕ → List Decision → List ℕ
line_of_any some all [] = []
line_of_any some all (d ∷ ds) = decided_line some all (d ∷ ds)

-- the line of those that were decided after so many steps, if there are any, with how many decided until now
abbrev pub told_later : ℕ → ℕ → List Decision → List ℕ
told_later all since ds = line_of_any (length ds) all (filter (is_later since) ds)
