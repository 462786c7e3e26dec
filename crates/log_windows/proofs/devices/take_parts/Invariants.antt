use Rattle.std.proofs.Common.{◌≡◌, ◌<◌, List, ℕ, Option, length}
use Rattle.log_windows.specs.Devices.{IsReadTo}
use Rattle.log_windows.proofs.devices.take_parts.Given as goal

-- the text was read to here
abbrev pub invariant-loop : goal.invariant-loop
invariant-loop g l = record {
  room : 0 < length l.piece;
  read : (start : _) (known : Option (List ℕ))
      → IsReadTo g.T.TakeRows.next start known (g.R.Read.remaining l.initial.reader.inner) l.initial.rest.items l.initial.taker
      → IsReadTo g.T.TakeRows.next start known (g.R.Read.remaining l.reader.inner) l.rest.items l.taker;
  faults : l.reader.faults ≡ l.initial.reader.faults;
}
