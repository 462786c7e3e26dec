use Rattle.std.proofs.Common.{◌≡◌, ℕ, List, map}
use Rattle.trace_text.specs.Records.{field_of}
use Rattle.trace_text.proofs.RecordLoops.{HasRead, bytes_left}
use Rattle.event_log.proofs.message_fields.fields_at.Given as goal

-- the fields are those of the records that were read
abbrev pub invariant-loop-fields : goal.invariant-loop-fields
invariant-loop-fields l = (done : List (List (List ℕ)))
    × HasRead l.fn.text l.reader done × (l.fields.items ≡ map (λ fields. field_of fields l.fn.column) done)

abbrev pub decreases-loop-fields : goal.decreases-loop-fields
decreases-loop-fields l = bytes_left l.reader
