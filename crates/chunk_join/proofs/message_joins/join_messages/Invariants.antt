use Rattle.std.proofs.Common.{◌≡◌, ◌++◌, ◌+◌, map, take, vec_len, vec_capacity}
use Rattle.chunk_join.specs.Parts.{settle}
use Rattle.chunk_join.proofs.message_joins.join_messages.Given as goal

abbrev pub invariant-loop-message : goal.invariant-loop-message
invariant-loop-message l = (l.sent.items ≡ map (settle l.taken l.last) l.fn.sent.items ++ take l.message-index l.more)
    × (vec_len l.sent ≡ vec_len l.fn.sent + l.message-index) × (vec_capacity l.sent ≡ vec_capacity l.fn.sent)
