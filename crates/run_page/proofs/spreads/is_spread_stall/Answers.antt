use Rattle.std.proofs.Common.{◌-◌, None, Some, false, refl}
use Rattle.run_page.specs.Spreads.{IsLessThanHalf, Lasts}
use Rattle.run_page.proofs.SilenceTimes.{one-time}
use Rattle.run_page.proofs.spreads.is_spread_stall.Goals as goal

pub returns-in-Some : goal.returns-in-Some
returns-in-Some c =
    let times = rw c.in-Some.is at c.silence_time.ensures in
    let less = rw c.gap_ticks.ensures at c.is_less_than_half.ensures in
    one-time (Lasts c.args.trace.now c.args.said.now c.args.stall)
    (IsLessThanHalf c.args.width (c.args.stall.gap.to - (c.args.stall.gap.from - 1)))
    (Some c.in-Some.time) times c.is_less_than_half.result less

pub returns-in-None : goal.returns-in-None
returns-in-None c =
    let times = rw c.in-None.is at c.silence_time.ensures in
    one-time (Lasts c.args.trace.now c.args.said.now c.args.stall)
    (IsLessThanHalf c.args.width (c.args.stall.gap.to - (c.args.stall.gap.from - 1))) None times false refl
