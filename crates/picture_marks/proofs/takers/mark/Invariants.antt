use Rattle.std.proofs.Common.{◌≡◌, ◌==◌, ℕ, Some, take, if◌then◌else◌}
use Rattle.std.specs.List.{list_any}
use Rattle.picture_marks.specs.Messages.{taker_in}
use Rattle.picture_marks.proofs.takers.mark.Given as goal

abbrev pub invariant-loop-s : goal.invariant-loop-s
invariant-loop-s l = (s : ℕ) → taker_in l.takers s
    ≡ (if list_any (λ i. i == s) (take l.s-index l.ids) then Some l.no else taker_in l.fn.takers s)
