use Rattle.std.proofs.Common.{◌+◌, ◌-◌, ◌≤◌, length}
use Rattle.certificate_checker.specs.Receives.{KnowsReceives}
use Rattle.certificate_checker.proofs.receives.Receives.of_trace.Given as goal

-- the steps before number `no` are scanned
abbrev pub invariant-loop-no : goal.invariant-loop-no
invariant-loop-no l = record {
  end : l.no ≤ length l.trace.steps + 1;
  known : KnowsReceives l.trace (l.no - 1) l.receives;
}
