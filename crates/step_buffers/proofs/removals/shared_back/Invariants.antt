use Rattle.std.proofs.Common.{◌≡◌, ◌-◌, filter, length, not, take}
use Rattle.step_buffers.specs.Moves.{is_in}
use Rattle.step_buffers.proofs.removals.shared_back.Given as goal

abbrev pub invariant-loop-at : goal.invariant-loop-at
invariant-loop-at l = filter (λ s. not (is_in l.ids s)) l.waiting
    ≡ filter (λ s. not (is_in (take (length l.ids - l.at) l.ids) s)) (take (length l.waiting - l.at) l.waiting)
