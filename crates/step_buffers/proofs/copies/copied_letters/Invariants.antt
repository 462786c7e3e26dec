use Rattle.std.proofs.Common.{◌≡◌, take}
use Rattle.step_buffers.proofs.copies.copied_letters.Given as goal

abbrev pub invariant-loop-letter : goal.invariant-loop-letter
invariant-loop-letter l = l.copy.items ≡ take l.letter-index l.letters
