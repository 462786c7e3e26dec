use Rattle.std.proofs.Common.{◌≡◌}
use Rattle.clock_offsets.specs.ClockCycles.{LeadFrom, took_together}
use Rattle.clock_offsets.proofs.clock_cycles.tested_cycle.Given as goal

abbrev pub invariant-loop-hop : goal.invariant-loop-hop
invariant-loop-hop l = record {
  lead : LeadFrom l.events l.clock l.hops.items l.at;
  total : l.total ≡ took_together l.hops.items;
}
