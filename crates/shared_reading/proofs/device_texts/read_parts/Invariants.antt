use Rattle.std.proofs.Common.{◌≡◌, ◌≤◌, ◌<◌, ◌-◌, ℕ, List, [], Option, length}
use Rattle.shared_reading.specs.DeviceTexts.{IsReadTo}
use Rattle.shared_reading.proofs.device_texts.read_parts.Given as goal

-- the text was read to here
abbrev pub invariant-loop-alloc : goal.invariant-loop-alloc
invariant-loop-alloc g l = record {
  piece : length l.piece ≡ length l.initial.piece;
  some : 0 < l.room;
  limit : l.progress.total ≤ 67108864;
  read : (known : Option (List ℕ)) → IsReadTo known (g.R.Read.remaining l.initial.reader.inner) [] l.initial.progress
      → IsReadTo known (g.R.Read.remaining l.reader.inner) [] l.progress;
  faults : l.reader.faults ≡ l.initial.reader.faults;
}

abbrev pub decreases-loop-alloc : goal.decreases-loop-alloc
decreases-loop-alloc g l = 67108864 - l.progress.total
