use Rattle.std.proofs.Common.{◌+◌, ◌≤◌}
use Rattle.certificate_checker.specs.Closings.{KnowsEnds}
use Rattle.certificate_checker.proofs.closings.closings.Given as goal

-- the ends of the members below p are noted
abbrev pub invariant-loop-p : goal.invariant-loop-p
invariant-loop-p l = record {
  end : l.p ≤ l.trace.config.n + 1;
  known : KnowsEnds l.set l.trace l.p l.ends.items;
}
