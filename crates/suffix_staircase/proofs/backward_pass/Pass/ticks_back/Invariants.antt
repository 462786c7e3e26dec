use Rattle.std.proofs.Common.{◌+◌, ◌<◌, ◌≤◌}
use Rattle.suffix_staircase.proofs.Common.{tick_of, KnowsTicksFrom}
use Rattle.suffix_staircase.proofs.backward_pass.Pass.ticks_back.Given as goal

-- the ticks from `g` on are scanned
abbrev pub invariant-loop-g : goal.invariant-loop-g
invariant-loop-g l = record {
  low : tick_of l.trace l.done < l.g;
  high : l.g ≤ l.high + 1;
  known : KnowsTicksFrom l.fn.self.set l.trace l.done l.g l.self l.builder;
}
