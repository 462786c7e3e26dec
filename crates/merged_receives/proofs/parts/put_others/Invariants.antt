use Rattle.std.proofs.Common.{◌≡◌, ◌++◌, drop, map, take}
use Rattle.std.specs.Prelude.{slice_index_or}
use Rattle.merged_receives.proofs.parts.put_others.Given as goal

-- others for those so far
abbrev pub invariant-loop-i : goal.invariant-loop-i
invariant-loop-i l = l.numbers ≡ map (λ p. slice_index_or l.places p 0) (take l.i l.initial.numbers) ++ drop l.i l.initial.numbers
