-- Which processors count as correct, and how texts name them (own).
use Rattle.std.specs.Prelude.{ℕ, ◌≡◌, List, codes}
use Rattle.step_trace.specs.declared.correct_sets.Correct.{Correct}
use Rattle.step_trace.specs.declared.correct_sets.Correct.TheVariants as correct
use Rattle.step_trace.specs.Members.{all_to}
use Rattle.step_trace.specs.ProcessorLists.{IsSetIn}

-- the set of the correct processors, if there are n
abbrev pub named : Correct → ℕ → ℕ
named correct.All n = all_to n
named (correct.These set) n = set

-- what the text names: all of them if it is the word `all`, else the set that it lists
abbrev pub IsCorrectIn : List ℕ → Correct → Type 0
IsCorrectIn text correct.All = text ≡ codes "all"
IsCorrectIn text (correct.These set) = IsSetIn text set
