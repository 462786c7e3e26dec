use Rattle.std.proofs.Common.{◌+◌, ◌-◌, ◌≤◌}
use Rattle.certificate_checker.specs.LongestWitnesses.{KnowsMissesAfter, AreFrom}
use Rattle.certificate_checker.proofs.bounds.misses_from.Given as goal

-- the messages from number s on are scanned
abbrev pub invariant-loop-s : goal.invariant-loop-s
invariant-loop-s l = record {
  low : 1 ≤ l.s;
  high : l.s ≤ l.fn.longest.after + 1;
  known : KnowsMissesAfter l.set l.trace (l.s - 1) l.miss;
  above : AreFrom l.trace (l.s - 1) l.from;
}
