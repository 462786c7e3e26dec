use Rattle.std.proofs.Common.{◌≡◌, ◌+◌, ◌-◌, length}
use Rattle.event_log.proofs.ToldLines.{IsAhead, one_if_any}
use Rattle.event_log.proofs.read_lines.read_ahead.Given as goal

-- some lines were told that are yet to be taken in, and the next ones are to be told of the same text
abbrev pub invariant-loop-rules : goal.invariant-loop-rules
invariant-loop-rules g l = record {
  ahead : IsAhead l.rules l.fn.begun l.text l.fn.at l.reading l.told;
  same : l.lines.text.now ≡ l.text;
}

abbrev pub decreases-loop-rules : goal.decreases-loop-rules
decreases-loop-rules g l = length l.text - l.told.end + one_if_any l.told.rows.items
