use Rattle.std.proofs.Common.{◌≤◌}
use Rattle.run_page.specs.Spreads.{IsSpreadCount}
use Rattle.run_page.proofs.spreads.spread_count.Given as goal

abbrev pub invariant-loop-k : goal.invariant-loop-k
invariant-loop-k l = record {
  count : IsSpreadCount l.trace l.said l.width l.evidence l.k l.count;
  few : l.count ≤ l.k;
}
