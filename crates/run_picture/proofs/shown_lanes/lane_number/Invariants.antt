use Rattle.std.proofs.Common.{◌≡◌, ◌≤◌}
use Rattle.run_picture.specs.ShownLanes.{members_to}
use Rattle.run_picture.proofs.shown_lanes.lane_number.Given as goal

abbrev pub invariant-loop-i : goal.invariant-loop-i
invariant-loop-i l = (l.number ≡ members_to l.lanes l.i) × (l.number ≤ l.i)
