use Rattle.std.proofs.Common.{◌≡◌, fold, map}
use Rattle.event_log.specs.Events.{seen}
use Rattle.event_log.specs.Merges.{with_messages}
use Rattle.event_log.proofs.joined_receives.receiving.Given as goal

-- the receives that are left give what all give
abbrev pub invariant-loop-receive : goal.invariant-loop-receive
invariant-loop-receive l = fold with_messages (map seen l.events.items) l.receive-iterator.rest.items
    ≡ fold with_messages (map seen l.fn.events.items) l.fn.receives.items
