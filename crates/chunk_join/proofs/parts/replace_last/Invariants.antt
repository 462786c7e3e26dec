use Rattle.std.proofs.Common.{◌≡◌, length, take}
use Rattle.chunk_join.specs.Parts.{later_each}
use Rattle.chunk_join.proofs.parts.replace_last.Given as goal

abbrev pub invariant-loop-p : goal.invariant-loop-p
invariant-loop-p l = (l.left.items ≡ later_each l.fn.left.items (take l.p l.right)) × (length l.left.items ≡ length l.fn.left.items)
