use Rattle.std.proofs.Common.{◌≡◌, ◌++◌, ◌+◌, ◌≤◌, filter, take, vec_len, vec_capacity}
use Rattle.chunk_join.specs.Parts.{stops}
use Rattle.chunk_join.proofs.silence_joins.append_stopping.Given as goal

abbrev pub invariant-loop-silence : goal.invariant-loop-silence
invariant-loop-silence l = (l.left.items ≡ l.fn.left.items ++ filter (stops l.seam l.right) (take l.silence-index l.tail))
    × (vec_len l.left ≤ vec_len l.fn.left + l.silence-index) × (vec_capacity l.left ≡ vec_capacity l.fn.left)
