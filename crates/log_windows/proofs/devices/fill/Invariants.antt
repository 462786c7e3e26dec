use Rattle.std.proofs.Common.{◌≡◌, ◌-◌, length, vec_len}
use Rattle.log_windows.specs.Devices.{Grew}
use Rattle.log_windows.proofs.devices.fill.Given as goal

-- what was read is kept behind what was kept before
abbrev pub invariant-loop-reader : goal.invariant-loop-reader
invariant-loop-reader g l = record {
  room : length l.piece ≡ length l.initial.piece;
  read : Grew (g.R.Read.remaining l.initial.reader.inner) (g.R.Read.remaining l.reader.inner) l.initial.rest.items l.rest.items;
  faults : l.reader.faults ≡ l.initial.reader.faults;
}

abbrev pub decreases-loop-reader : goal.decreases-loop-reader
decreases-loop-reader g l = l.room - vec_len l.rest
