use Rattle.std.proofs.Common.{◌≡◌, take}
use Rattle.event_log.specs.Merges.{joined_messages}
use Rattle.event_log.proofs.joined_receives.joined_messages.Given as goal

-- the messages of the events so far
abbrev pub invariant-loop-place : goal.invariant-loop-place
invariant-loop-place l = l.messages.items ≡ joined_messages l.events l.places (take l.place-index l.part)
