use Rattle.std.proofs.Common.{ℕ, ◌≡◌, ◌<◌, Some, false}
use Rattle.std.specs.Prelude.{slice_get}
use Rattle.run_story.specs.declared.delays.Delay.{Delay}
use Rattle.run_story.specs.Evidence.{explains}
use Rattle.run_story.proofs.evidence.explained.Given as goal

abbrev pub invariant-loop-k : goal.invariant-loop-k
invariant-loop-k l = (k : ℕ) (d : Delay) → k < l.k → slice_get l.delays k ≡ Some d → explains l.trace l.stall d ≡ false
