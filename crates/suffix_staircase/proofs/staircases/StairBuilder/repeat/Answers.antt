use Rattle.std.proofs.Common.{◌≡◌, ap, arith}
use Rattle.suffix_staircase.specs.declared.staircases.StairBuilder.TheInside.{Inside}
use Rattle.suffix_staircase.proofs.Common.{repeated, levels_of, AreStairs}
use Rattle.suffix_staircase.proofs.RepeatedLevels.{IsLonger, IsLonger-repeated}
use Rattle.suffix_staircase.proofs.staircases.StairBuilder.repeat.Goals as goal

pub invariant_of-self-inside : goal.invariant_of-self-inside
invariant_of-self-inside c =
    let kept = c.self-inside.inside.0.0.stretches.items in
    let inside : AreStairs kept = c.self-inside.invariant in
    let old : levels_of kept ≡ c.self.inside.stairs = ap (λ (b : Inside). b.stairs) c.self-inside.view_is in
    let view : c.self.inside.stairs ≡ c.args.self.now = c.self.view_is in
    let more : IsLonger (levels_of kept) c.args.count (repeated c.args.count (levels_of kept)) =
    IsLonger-repeated c.args.count (levels_of kept) inside.1 in
    let room = rw (← view, ← old) at c.requires.room in
    rw c.repeat_first.ensures.levels (c.repeat_first.ensures.stretches, more.falling, omega (arith, more.long, room))
