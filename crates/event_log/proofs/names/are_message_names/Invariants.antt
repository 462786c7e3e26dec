use Rattle.std.proofs.Common.{◌≡◌, map, true}
use Rattle.std.specs.List.{list_all}
use Rattle.trace_text.specs.Names.{is_message_name}
use Rattle.event_log.proofs.names.are_message_names.Given as goal

-- the parts so far are names
abbrev pub invariant-loop-name : goal.invariant-loop-name
invariant-loop-name l = (goal.iterator-loop-name).can_next l.name-iterator × (goal.iterator-loop-name).is_finite l.name-iterator
    × (list_all is_message_name (map (λ x. x.now) l.yielded) ≡ true)
