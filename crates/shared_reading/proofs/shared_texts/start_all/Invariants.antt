use Rattle.std.proofs.Common.{◌≡◌, ◌≤◌, ◌-◌, ℕ, List, Option, length}
use Rattle.shared_reading.specs.DeviceTexts.{IsReadTo}
use Rattle.shared_reading.specs.UnderWay.{bytes_of}
use Rattle.shared_reading.proofs.shared_texts.start_all.Given as goal

-- the text was read to here
abbrev pub invariant-loop-ended : goal.invariant-loop-ended
invariant-loop-ended g l = record {
  piece : length l.piece ≡ length l.initial.piece;
  limit : l.progress.total ≤ 67108864;
  read : (known : Option (List ℕ)) → IsReadTo known (g.R.Read.remaining l.initial.reader.inner) (bytes_of l.initial.under_way.items)
      l.initial.progress → IsReadTo known (g.R.Read.remaining l.reader.inner) (bytes_of l.under_way.items) l.progress;
  faults : l.reader.faults ≡ l.initial.reader.faults;
}

abbrev pub decreases-loop-ended : goal.decreases-loop-ended
decreases-loop-ended g l = 67108864 - l.progress.total
