use Rattle.std.proofs.Common.{◌≡◌, List, ℕ, Ok}
use Rattle.trace_text.specs.Records.{after_records}
use Rattle.trace_text.proofs.RecordLoops.{HasRead, bytes_left}
use Rattle.event_log.proofs.rows.take_rows.Given as goal

-- the records that were read lead to what was reached
abbrev pub invariant-loop-taker : goal.invariant-loop-taker
invariant-loop-taker g l = (done : List (List (List ℕ)))
    × HasRead l.fn.text l.reader done × (after_records g.T.TakeRows.next l.fn.taker done ≡ Ok l.taker)

abbrev pub decreases-loop-taker : goal.decreases-loop-taker
decreases-loop-taker g l = bytes_left l.reader
