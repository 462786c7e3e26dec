use Rattle.std.proofs.Common.{◌≡◌, ◌≤◌, length, drop}
use Rattle.trace_text.specs.Records.{after_records, records_of_text}
use Rattle.event_log.specs.Reading.{next_reading}
use Rattle.event_log.proofs.read_lines.take_lines.Given as goal

-- what was read leads, with the records from the place on, where all records lead
abbrev pub invariant-loop : goal.invariant-loop
invariant-loop l = (l.at ≤ length l.fn.text) × (after_records next_reading l.fn.reading (records_of_text l.fn.text)
    ≡ after_records next_reading l.reading (records_of_text (drop l.at l.fn.text)))
