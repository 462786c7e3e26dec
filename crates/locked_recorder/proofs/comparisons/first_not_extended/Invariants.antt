use Rattle.std.proofs.Common.{take}
use Rattle.locked_recorder.specs.Audits.{AreExtended}
use Rattle.locked_recorder.proofs.comparisons.first_not_extended.Given as goal

abbrev pub invariant-loop-i : goal.invariant-loop-i
invariant-loop-i l = AreExtended l.trace (take l.i l.views)
