use Rattle.std.proofs.Common.{◌≡◌, map, take}
use Rattle.event_log.specs.LogPlaces.{hop_in}
use Rattle.event_log.proofs.log_places.hops_in.Given as goal

-- the hops so far
abbrev pub invariant-loop-hop : goal.invariant-loop-hop
invariant-loop-hop l = l.placed.items ≡ map (hop_in l.places) (take l.hop-index l.hops)
