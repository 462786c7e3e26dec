use Rattle.std.proofs.Common.{◌≡◌, map, take}
use Rattle.std.specs.Prelude.{slice_index}
use Rattle.event_log.proofs.joined_receives.first_places.Given as goal

-- the places so far
abbrev pub invariant-loop-k : goal.invariant-loop-k
invariant-loop-k l = l.places.items ≡ map (λ part. slice_index part 0) (take l.k l.parts)
