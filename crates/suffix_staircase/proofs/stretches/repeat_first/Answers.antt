use Rattle.std.proofs.Common.{◌∙◌, ◌<◌, ◌+◌, ◌-◌, ◌≡◌, ap, sym, List, length, reverse, set, ℕ, arith}
use Rattle.suffix_staircase.proofs.Common.{Stretch, levels_of}
use Rattle.suffix_staircase.proofs.KeptStretches.{IsRepeated, IsRepeated-last}
use Rattle.suffix_staircase.proofs.stretches.repeat_first.Goals as goal
use Rattle.suffix_staircase.proofs.stretches.repeat_first.Goals.{After-index_mut}

last : (c : After-index_mut)
    → let reaching : Stretch = record { level = c.index_mut.result.now.level; reach = c.height.result + c.args.count } in
    let kept = c.args.stretches.now.items in
    IsRepeated (reverse kept) c.args.count (reverse (set kept (c.len-last.result - 1) reaching))
last c =
    let long : c.len-last.result ≡ length c.args.stretches.now.items = c.len-last.ensures
    ∙ sym c.deref.ensures.len ∙ ap length c.deref.ensures.value in
    let some : 0 < length c.args.stretches.now.items = omega (arith, c.len.ensures, c.if-len-eq0.false, long, c.len-last.ensures) in
    IsRepeated-last c.args.stretches.now.items c.args.count c.len-last.result
    (c.height.result + c.args.count) c.index_mut.result.now _ c.requires.stretches long some
    (ap (λ (n : ℕ). n + c.args.count)
    (c.height.ensures ∙ ap (λ (xs : List Stretch). length (levels_of xs)) c.deref.ensures.value))
    c.index_mut.ensures.value

pub returns-clause-levels : goal.returns-clause-levels
returns-clause-levels c = (last (goal.at.returns-clause-levels c).After-index_mut).levels

pub returns-clause-stretches : goal.returns-clause-stretches
returns-clause-stretches c = (last (goal.at.returns-clause-stretches c).After-index_mut).stretches
