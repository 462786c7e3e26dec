use Rattle.std.proofs.Common.{◌≡◌, [], fold, map}
use Rattle.log_windows.specs.KeptTexts.{next_name}
use Rattle.log_windows.proofs.kept_names.kept_names.Given as goal

-- the names so far
abbrev pub invariant-loop-name : goal.invariant-loop-name
invariant-loop-name l = (goal.iterator-loop-name).can_next l.name-iterator × (goal.iterator-loop-name).is_finite l.name-iterator
    × (l.names ≡ fold (next_name l.sent l.node) (record { text = []; unsent = 0 }) (map (λ x. x.now) l.yielded))
