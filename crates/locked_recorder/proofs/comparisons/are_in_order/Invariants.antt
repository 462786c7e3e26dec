use Rattle.locked_recorder.proofs.SeatOrder.{AreFirst}
use Rattle.locked_recorder.proofs.comparisons.are_in_order.Given as goal

abbrev pub invariant-loop-i : goal.invariant-loop-i
invariant-loop-i l = AreFirst l.i l.seats
