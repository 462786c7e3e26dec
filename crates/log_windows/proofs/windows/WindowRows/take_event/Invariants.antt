use Rattle.std.proofs.Common.{◌≡◌, Ok, map}
use Rattle.csv.specs.Records.{fields_of}
use Rattle.trace_text.specs.Records.{after_records}
use Rattle.log_windows.specs.KeptRows.{next_part}
use Rattle.log_windows.specs.Rows.{with_field}
use Rattle.log_windows.proofs.windows.WindowRows.take_event.Given as goal

-- the records of the nodes so far lead to what is kept
abbrev pub invariant-loop-node : goal.invariant-loop-node
invariant-loop-node l = (goal.iterator-loop-node).can_next l.node-iterator × (goal.iterator-loop-node).is_finite l.node-iterator
    × (after_records (next_part l.columns l.fn.place) l.fn.self
    (map (with_field (fields_of l.fields) l.columns.to) (map (λ x. x.now) l.yielded)) ≡ Ok l.self)
