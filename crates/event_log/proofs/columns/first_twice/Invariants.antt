use Rattle.std.proofs.Common.{◌≡◌, drop}
use Rattle.std.specs.Prelude.{find}
use Rattle.event_log.specs.Columns.{all_columns, has_twice}
use Rattle.event_log.proofs.columns.first_twice.Given as goal

abbrev pub invariant-loop-column : goal.invariant-loop-column
invariant-loop-column g l = (l.column-items ≡ all_columns) × (find (has_twice (g.F.Fields.fields l.header)) all_columns
    ≡ find (has_twice (g.F.Fields.fields l.header)) (drop l.column-index all_columns))
