use Rattle.std.proofs.Common.{ℕ, ◌≡◌, ◌<◌, ◌≤◌, Some}
use Rattle.std.specs.Prelude.{slice_get}
use Rattle.run_story.specs.declared.delays.Delay.{Delay}
use Rattle.run_story.proofs.evidence.first_from.Given as goal

abbrev pub invariant-loop-k : goal.invariant-loop-k
invariant-loop-k l = (k : ℕ) (d : Delay) → l.from ≤ k → k < l.k → slice_get l.delays k ≡ Some d → d.last < l.row
