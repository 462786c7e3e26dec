use Rattle.std.proofs.Common.{◌≡◌, filter, not, drop}
use Rattle.step_buffers.specs.Moves.{is_in}
use Rattle.step_buffers.proofs.removals.shared_front.Given as goal

abbrev pub invariant-loop-at : goal.invariant-loop-at
invariant-loop-at l = filter (λ s. not (is_in l.ids s)) l.waiting ≡ filter (λ s. not (is_in (drop l.at l.ids) s)) (drop l.at l.waiting)
