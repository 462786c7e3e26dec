use Rattle.std.proofs.Common.{◌≡◌, ◌≤◌, ◌-◌}
use Rattle.locked_recorder.specs.Seats.{opening_seats}
use Rattle.locked_recorder.proofs.recorders.opening_seats.Given as goal

-- the seats so far
abbrev pub invariant-loop-p : goal.invariant-loop-p
invariant-loop-p l = (1 ≤ l.p) × (l.seats.items ≡ opening_seats l.tag (l.p - 1))
