use Rattle.std.proofs.Common.{◌≡◌, ◌≤◌, ◌-◌, length}
use Rattle.locked_recorder.specs.Comparisons.{AreCompared}
use Rattle.locked_recorder.proofs.SeatRounds.{AreRounds}
use Rattle.locked_recorder.proofs.seat_comparisons.compare_seats.Given as goal

abbrev pub invariant-loop-no : goal.invariant-loop-no
invariant-loop-no l = AreCompared l.world.trace.config l.world.trace.steps (l.no - 1) l.seats l.agreed.items
    × AreRounds l.world.trace.steps (l.no - 1) l.rounds.items × (length l.rounds.items ≡ length l.seats) × (1 ≤ l.no)
