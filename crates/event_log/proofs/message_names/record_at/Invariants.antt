use Rattle.std.proofs.Common.{◌≡◌, ◌+◌, ℕ, List, length}
use Rattle.trace_text.proofs.RecordLoops.{HasRead}
use Rattle.event_log.proofs.message_names.record_at.Given as goal

-- so many records were read, and so many are to come before the one at the place
abbrev pub invariant-loop-fields : goal.invariant-loop-fields
invariant-loop-fields l = (done : List (List (List ℕ))) × HasRead l.fn.text l.reader done × (length done + l.before ≡ l.fn.place)

abbrev pub decreases-loop-fields : goal.decreases-loop-fields
decreases-loop-fields l = l.before
