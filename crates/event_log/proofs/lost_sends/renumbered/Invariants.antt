use Rattle.std.proofs.Common.{◌≡◌, map}
use Rattle.event_log.specs.Events.{seen}
use Rattle.event_log.specs.LostSends.{left_event}
use Rattle.event_log.proofs.KeptEvents.{changed_to}
use Rattle.event_log.proofs.lost_sends.renumbered.Given as goal

-- the events so far have their messages by the new places
abbrev pub invariant-loop-event : goal.invariant-loop-event
invariant-loop-event l = map seen l.event-items ≡ changed_to (left_event l.places) (map seen l.fn.events.items) l.event-index
