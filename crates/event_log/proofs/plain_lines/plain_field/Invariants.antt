use Rattle.std.proofs.Common.{◌≤◌, ◌-◌, length, take, drop}
use Rattle.trace_text.specs.RecordWriting.{IsPlain}
use Rattle.event_log.proofs.plain_lines.plain_field.Given as goal

-- the bytes so far need no quotes
abbrev pub invariant-loop-byte : goal.invariant-loop-byte
invariant-loop-byte l =
    (l.fn.at ≤ l.end) × (l.end ≤ length l.fn.text) × IsPlain (take (l.end - l.fn.at) (drop l.fn.at l.fn.text))

abbrev pub decreases-loop-byte : goal.decreases-loop-byte
decreases-loop-byte l = length l.fn.text - l.end
