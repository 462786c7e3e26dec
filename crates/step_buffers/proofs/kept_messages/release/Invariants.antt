use Rattle.std.proofs.Common.{ℕ, ◌≡◌, length, take}
use Rattle.step_buffers.specs.Letters.{letter_at, letter_left}
use Rattle.step_buffers.proofs.kept_messages.release.Given as goal

abbrev pub invariant-loop-id : goal.invariant-loop-id
invariant-loop-id l = (length l.letters.items ≡ length l.fn.letters.items)
    × ((s : ℕ) → letter_at l.letters.items s ≡ letter_left l.fn.letters.items (take l.id-index l.ids) l.round s)
