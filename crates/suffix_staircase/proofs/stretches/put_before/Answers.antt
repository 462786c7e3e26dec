use Rattle.std.proofs.Common.{◌∙◌, ap, sym, List, length, reverse, ◌+◌, ◌-◌, set, ℕ}
use Rattle.suffix_staircase.proofs.Common.{Stretch, levels_of}
use Rattle.suffix_staircase.proofs.KeptStretches.{IsRaised, IsRaised-new, IsRaised-same}
use Rattle.suffix_staircase.proofs.stretches.put_before.Goals as goal
use Rattle.suffix_staircase.proofs.stretches.put_before.Goals.{After-index_mut, In_ok-push}

same : (c : After-index_mut)
    → let raised : Stretch = record { level = c.index_mut.result.now.level; reach = c.height-reach.result + 1 } in
    let kept = c.args.stretches.now.items in
    IsRaised (reverse kept) c.args.level (reverse (set kept (c.len-last.result - 1) raised))
same c =
    IsRaised-same c.args.stretches.now.items c.args.level c.len-last.result
    (c.height-reach.result + 1) c.index_mut.result.now _ c.requires.stretches
    (c.len-last.ensures ∙ sym c.deref.ensures.len ∙ ap length c.deref.ensures.value) c.requires.falling
    (rw c.deref-2.ensures.value at c.if-begins.ensures)
    (ap (λ (n : ℕ). n + 1)
    (c.height-reach.ensures ∙ ap (λ (xs : List Stretch). length (levels_of xs)) c.deref.ensures.value))
    c.index_mut.ensures.value

new : (c : In_ok-push) → IsRaised (reverse c.args.stretches.now.items) c.args.level (reverse c.push.new.self.items)
new c =
    IsRaised-new c.args.stretches.now.items c.args.level
    (c.height-reach.result + 1) c.push.new.self.items c.requires.stretches
    (ap (λ (n : ℕ). n + 1)
    (c.height-reach.ensures ∙ ap (λ (xs : List Stretch). length (levels_of xs)) c.deref.ensures.value))
    (rw c.deref-2.ensures.value at c.if-begins.ensures)
    c.in_ok-push.ensures.items

pub returns-else-begins-clause-ok : goal.returns-else-begins-clause-ok
returns-else-begins-clause-ok c = (same (goal.at.returns-else-begins-clause-ok c).After-index_mut).levels

pub returns-else-begins-clause-stretches : goal.returns-else-begins-clause-stretches
returns-else-begins-clause-stretches c =
    (same (goal.at.returns-else-begins-clause-stretches c).After-index_mut).stretches

pub returns-in_ok-push-clause-ok : goal.returns-in_ok-push-clause-ok
returns-in_ok-push-clause-ok c = (new c).levels

pub returns-in_ok-push-clause-stretches : goal.returns-in_ok-push-clause-stretches
returns-in_ok-push-clause-stretches c = (new c).stretches
