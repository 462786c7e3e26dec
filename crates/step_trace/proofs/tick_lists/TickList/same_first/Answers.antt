use Rattle.std.proofs.Common.{arith, sym, ◌∙◌}
use Rattle.std.proofs.Math.Nat.{min-le_left, min-le_right}
use Rattle.step_trace.proofs.KeptTicks.{tick_by_number}
use Rattle.step_trace.proofs.tick_lists.TickList.same_first.Goals as goal

pub loop-no-init : goal.loop-no-init
loop-no-init c = λ k l.
    let one = c.args.self.now in let other = c.args.other.now in
    let least = c.min.ensures in let from = c.from-no.ensures in
    let left = min-le_left one.by_number other.by_number in
    let right = min-le_right one.by_number other.by_number in
    tick_by_number one.by_number one.others.items k (omega (arith, l, least, from, left))
    ∙ sym (tick_by_number other.by_number other.others.items k (omega (arith, l, least, from, right)))
