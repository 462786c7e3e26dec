use Rattle.std.proofs.Common.{◌≡◌, ◌≤◌, length, map, drop}
use Rattle.chunk_join.specs.Parts.{settle}
use Rattle.chunk_join.proofs.message_joins.settle_all.Given as goal

abbrev pub invariant-loop-k : goal.invariant-loop-k
invariant-loop-k l = (l.sent ≡ map (settle (drop l.k l.taken) l.last) l.fn.sent) × (l.k ≤ length l.taken)
