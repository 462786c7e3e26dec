use Rattle.std.proofs.Common.{◌≡◌, ◌++◌, map}
use Rattle.event_log.specs.SentMessages.{place_for}
use Rattle.event_log.proofs.placed_events.push_places.Given as goal

-- the new places are those of the names so far
abbrev pub invariant-loop-name : goal.invariant-loop-name
invariant-loop-name l = (goal.iterator-loop-name).can_next l.name-iterator
    × (goal.iterator-loop-name).is_finite l.name-iterator
    × (l.places.items ≡ l.fn.places.items ++ map (place_for l.sent l.processor) (map (λ x. x.now) l.yielded))
