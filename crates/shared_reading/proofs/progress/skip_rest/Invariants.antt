use Rattle.std.proofs.Common.{◌≡◌, ◌≤◌, ◌+◌, ◌-◌, ℕ, List, length}
use Rattle.std.specs.Io.KnownBytes.{Consumes}
use Rattle.shared_reading.proofs.progress.skip_rest.Given as goal

-- what was read makes the count
abbrev pub invariant-loop-count : goal.invariant-loop-count
invariant-loop-count g l = record {
  room : length l.piece ≡ length l.initial.piece;
  limit : l.total ≤ 67108864;
  read : (bytes : List ℕ) × Consumes (g.R.Read.remaining l.initial.reader.inner) (g.R.Read.remaining l.reader.inner) bytes
      × (l.total ≡ l.fn.total + length bytes);
  faults : l.reader.faults ≡ l.initial.reader.faults;
}

abbrev pub decreases-loop-count : goal.decreases-loop-count
decreases-loop-count g l = 67108864 - l.total
