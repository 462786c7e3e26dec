use Rattle.std.proofs.Common.{◌≡◌, length}
use Rattle.locked_recorder.proofs.PacedSeats.{IsPacedUnderWay}
use Rattle.locked_recorder.proofs.recorders.Recorder.drive_paced.Given as goal

abbrev pub invariant-loop-made : goal.invariant-loop-made
invariant-loop-made g l = record {
  peers : length l.pace.peers ≡ l.self.config.n;
  way : IsPacedUnderWay l.self l.patience l.made l.pace l.initial.seat l.seat;
}
