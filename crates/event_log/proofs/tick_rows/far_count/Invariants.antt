use Rattle.std.proofs.Common.{◌≡◌, ◌≤◌}
use Rattle.event_log.specs.TickRows.{far_before}
use Rattle.event_log.proofs.tick_rows.far_count.Given as goal

-- how many of the steps so far
abbrev pub invariant-loop-k : goal.invariant-loop-k
invariant-loop-k l = record {
  far : l.far ≡ far_before l.own l.trace.ticks l.places l.k;
  few : l.far ≤ l.k;
}
