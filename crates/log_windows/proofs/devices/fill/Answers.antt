use Rattle.std.proofs.Common.{[], rules, refl, sym, append-nil}
use Rattle.std.proofs.KnownBytes.{Consumes-nil}
use Rattle.log_windows.proofs.PartsTaken.{grew-more}
use Rattle.log_windows.proofs.devices.fill.Goals as goal

pub loop-reader-init : goal.loop-reader-init
loop-reader-init g c = record {
  room = refl;
  read = record { bytes = []; read = Consumes-nil _; is = sym (append-nil _) };
  faults = refl;
}

pub loop-reader-preserved : goal.loop-reader-preserved
loop-reader-preserved g c = record {
  room = search rules;
  read = grew-more _ _ _ _ _ _ _ c.loop-reader.invariant.read c.in-Ok.ensures.bytes.0 (search rules);
  faults = search rules;
}
