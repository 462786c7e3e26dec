use Rattle.std.proofs.Common.{◌≡◌, ◌++◌, ◌+◌, map, take, vec_len, vec_capacity}
use Rattle.chunk_join.specs.Parts.{reach_back}
use Rattle.chunk_join.proofs.silence_joins.append_reached.Given as goal

abbrev pub invariant-loop-silence : goal.invariant-loop-silence
invariant-loop-silence l = (l.left.items ≡ l.fn.left.items ++ map (reach_back l.seam l.tail) (take l.silence-index l.right))
    × (vec_len l.left ≡ vec_len l.fn.left + l.silence-index) × (vec_capacity l.left ≡ vec_capacity l.fn.left)
