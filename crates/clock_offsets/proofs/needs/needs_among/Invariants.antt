use Rattle.std.proofs.Common.{take}
use Rattle.clock_offsets.specs.EventNeeds.{AreNeedsAmong}
use Rattle.clock_offsets.proofs.needs.needs_among.Given as goal

abbrev pub invariant-loop-hop : goal.invariant-loop-hop
invariant-loop-hop l = AreNeedsAmong l.events (take l.hop-index l.hops) l.needs.items
