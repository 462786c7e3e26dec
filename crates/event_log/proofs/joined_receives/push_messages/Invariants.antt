use Rattle.std.proofs.Common.{◌≡◌, ◌++◌, map, take}
use Rattle.event_log.specs.LostSends.{left_message}
use Rattle.event_log.proofs.joined_receives.push_messages.Given as goal

-- the messages so far
abbrev pub invariant-loop-message : goal.invariant-loop-message
invariant-loop-message l = l.messages.items ≡ l.initial.messages.items ++ map (left_message l.places) (take l.message-index l.message-items)
