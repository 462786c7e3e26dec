use Rattle.std.proofs.Common.{◌≡◌}
use Rattle.event_log.specs.Columns.{place_from}
use Rattle.event_log.proofs.columns.place_from.Given as goal

-- the column isn't at a place before i
abbrev pub invariant-loop-i : goal.invariant-loop-i
invariant-loop-i g l = place_from l.start (g.F.Fields.fields l.header) l.column ≡ place_from l.i (g.F.Fields.fields l.header) l.column
