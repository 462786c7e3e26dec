use Rattle.std.proofs.Common.{◌≡◌, ◌≤◌, ◌-◌, ◌+◌, ℕ, List, Option, length, vec_len}
use Rattle.shared_reading.specs.DeviceTexts.{IsReadTo}
use Rattle.shared_reading.proofs.progress.fill.Given as goal

-- what was read is kept behind what was kept before
abbrev pub invariant-loop-reader : goal.invariant-loop-reader
invariant-loop-reader g l = record {
  room : length l.piece ≡ length l.initial.piece;
  limit : l.progress.total ≤ 67108864;
  more : l.progress.total + vec_len l.initial.progress.rest ≡ l.initial.progress.total + vec_len l.progress.rest;
  read : (known : Option (List ℕ)) (before : List ℕ) → IsReadTo known (g.R.Read.remaining l.initial.reader.inner) before l.initial.progress
      → IsReadTo known (g.R.Read.remaining l.reader.inner) before l.progress;
  faults : l.reader.faults ≡ l.initial.reader.faults;
}

abbrev pub decreases-loop-reader : goal.decreases-loop-reader
decreases-loop-reader g l = l.until - vec_len l.progress.rest
