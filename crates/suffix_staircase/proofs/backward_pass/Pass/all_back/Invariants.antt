use Rattle.std.proofs.Common.{◌≡◌, ◌+◌, ◌-◌, ◌≤◌, length}
use Rattle.suffix_staircase.proofs.Common.{tick_of, KnowsTicksFrom}
use Rattle.suffix_staircase.proofs.backward_pass.Pass.all_back.Given as goal

-- the steps from `no` on are scanned, and the ticks after that of the step before, which is `tick`
abbrev pub invariant-loop-no : goal.invariant-loop-no
invariant-loop-no l = record {
  start : 1 ≤ l.no;
  end : l.no ≤ length l.trace.steps + 1;
  tick : l.tick ≡ tick_of l.trace (l.no - 1);
  known : KnowsTicksFrom l.fn.self.set l.trace (l.no - 1) (tick_of l.trace (l.no - 1) + 1) l.self l.builder;
}
