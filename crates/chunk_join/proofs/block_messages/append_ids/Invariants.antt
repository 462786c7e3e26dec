use Rattle.std.proofs.Common.{◌≡◌, ◌++◌, map, take}
use Rattle.chunk_join.specs.BlockSteps.{take_of}
use Rattle.chunk_join.proofs.block_messages.append_ids.Given as goal

abbrev pub invariant-loop-id : goal.invariant-loop-id
invariant-loop-id l = l.taken.items ≡ l.fn.taken.items ++ map (take_of l.trace l.at l.by l.before) (take l.id-index l.ids)
