use Rattle.std.proofs.Common.{refl, arith}
use Rattle.run_picture.proofs.LaneCounts.{members_more}
use Rattle.run_picture.proofs.shown_lanes.lane_number.Goals as goal

pub loop-i-preserved : goal.loop-i-preserved
loop-i-preserved c =
    let so_far = c.loop-i.invariant.0 in
    let below = c.loop-i.invariant.1 in
    let limit = c.one_if-number.ensures.limit in
    (rw (members_more c.args.lanes c.loop-i.i, c.one_if-number.ensures.value, c.contains.ensures, so_far) refl, omega (arith, below, limit))
