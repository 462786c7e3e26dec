use Rattle.locked_recorder.specs.Comparisons.{AreWhole}
use Rattle.locked_recorder.proofs.comparisons.first_differing.Given as goal

abbrev pub invariant-loop-i : goal.invariant-loop-i
invariant-loop-i l = AreWhole l.seats l.agreed l.i
