use Rattle.std.proofs.Common.{◌≡◌, length, map}
use Rattle.std.specs.List.{range_with_len}
use Rattle.event_log.specs.LostSends.{left_before}
use Rattle.event_log.proofs.lost_sends.places_left.Given as goal

-- the places of the events so far
abbrev pub invariant-loop-place : goal.invariant-loop-place
invariant-loop-place l = record {
  old : l.old.items ≡ left_before l.events l.place;
  new : l.new.items ≡ map (λ s. length (left_before l.events s)) (range_with_len 0 l.place);
}
