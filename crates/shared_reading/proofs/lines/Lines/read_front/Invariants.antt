use Rattle.std.proofs.Common.{◌≡◌, ◌-◌, ◌≤◌, length, drop}
use Rattle.trace_text.specs.Records.{after_records, records_of_text}
use Rattle.shared_reading.specs.Lines.{next_read}
use Rattle.shared_reading.proofs.lines.Lines.read_front.Given as goal

-- what was read leads, with the records from the place on, where all records lead
abbrev pub invariant-loop-found : goal.invariant-loop-found
invariant-loop-found l = (l.at ≤ length l.fn.text) × (after_records next_read l.initial.self (records_of_text l.fn.text)
    ≡ after_records next_read l.self (records_of_text (drop l.at l.fn.text)))

abbrev pub decreases-loop-found : goal.decreases-loop-found
decreases-loop-found l = length l.fn.text - l.at
