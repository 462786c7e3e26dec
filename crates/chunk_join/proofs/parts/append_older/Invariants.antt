use Rattle.std.proofs.Common.{◌≡◌, ◌++◌, ◌+◌, ◌≤◌, map, filter, take, vec_len, vec_capacity}
use Rattle.chunk_join.specs.Parts.{is_older, reach_take}
use Rattle.chunk_join.proofs.parts.append_older.Given as goal

abbrev pub invariant-loop-take : goal.invariant-loop-take
invariant-loop-take l =
    (l.taken.items ≡ l.fn.taken.items ++ map (reach_take l.last) (filter (is_older l.from) (take l.take-index l.more)))
    × (vec_len l.taken ≤ vec_len l.fn.taken + l.take-index) × (vec_capacity l.taken ≡ vec_capacity l.fn.taken)
