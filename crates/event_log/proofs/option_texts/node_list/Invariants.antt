use Rattle.std.proofs.Common.{◌≡◌, map}
use Rattle.event_log.proofs.ListedNodes.{AreListed}
use Rattle.event_log.proofs.option_texts.node_list.Given as goal

-- the parts so far are listed
abbrev pub invariant-loop-name : goal.invariant-loop-name
invariant-loop-name l = (goal.iterator-loop-name).can_next l.name-iterator × (goal.iterator-loop-name).is_finite l.name-iterator
    × (l.nodes ≡ map (λ x. x.now) l.yielded) × AreListed l.nodes
