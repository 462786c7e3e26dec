use Rattle.std.proofs.Common.{◌≡◌, take}
use Rattle.event_log.specs.Merges.{joined_from}
use Rattle.event_log.proofs.joined_receives.joined_receives.Given as goal

-- the receives of the parts so far
abbrev pub invariant-loop-k : goal.invariant-loop-k
invariant-loop-k l = l.receives.items ≡ joined_from l.events l.places 0 (take l.k l.parts)
