use Rattle.std.proofs.Common.{◌≡◌, map}
use Rattle.std.specs.List.{All}
use Rattle.event_log.specs.TickRows.{IsRowOf, told_before}
use Rattle.event_log.proofs.tick_rows.tick_rows.Given as goal

-- the rows of the lengths so far
abbrev pub invariant-loop-k : goal.invariant-loop-k
invariant-loop-k l = record {
  widths : map (λ row. row.width) l.rows.items ≡ told_before l.kind l.log l.k;
  each : All (IsRowOf l.n l.events l.kind l.until) l.rows.items;
}
