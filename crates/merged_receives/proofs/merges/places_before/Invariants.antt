use Rattle.std.proofs.Common.{◌≡◌, length, map}
use Rattle.std.specs.List.{range_with_len}
use Rattle.merged_receives.specs.MergeWalks.{own_before}
use Rattle.merged_receives.proofs.merges.places_before.Given as goal

-- the events so far
abbrev pub invariant-loop-place : goal.invariant-loop-place
invariant-loop-place l = record {
  count : l.count ≡ length (own_before l.heads l.place);
  places : l.places.items ≡ map (λ s. length (own_before l.heads s)) (range_with_len 0 l.place);
}
