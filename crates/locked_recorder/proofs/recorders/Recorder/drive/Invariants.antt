use Rattle.std.proofs.Common.{◌≡◌}
use Rattle.locked_recorder.proofs.DrivenSeats.{IsUnderWay}
use Rattle.locked_recorder.proofs.recorders.Recorder.drive.Given as goal

abbrev pub invariant-loop-made : goal.invariant-loop-made
invariant-loop-made g l = (l.pace.patience ≡ l.patience) × IsUnderWay l.self l.patience l.made l.pace.received l.initial.seat l.seat
