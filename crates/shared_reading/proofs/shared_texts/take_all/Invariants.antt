use Rattle.std.proofs.Common.{◌≡◌, ℕ, List, Option, length}
use Rattle.std.specs.VecDeque.{deque_len}
use Rattle.shared_reading.specs.DeviceTexts.{IsReadTo}
use Rattle.shared_reading.specs.UnderWay.{bytes_of}
use Rattle.shared_reading.proofs.shared_texts.take_all.Given as goal

-- the text was read to here
abbrev pub invariant-loop-reader : goal.invariant-loop-reader
invariant-loop-reader g l = record {
  piece : length l.piece ≡ length l.initial.piece;
  total : l.progress.total ≡ l.initial.progress.total;
  same : g.R.Read.remaining l.reader.inner ≡ g.R.Read.remaining l.initial.reader.inner;
  read : (known : Option (List ℕ)) → IsReadTo known (g.R.Read.remaining l.initial.reader.inner) (bytes_of l.initial.under_way.items)
      l.initial.progress → IsReadTo known (g.R.Read.remaining l.reader.inner) (bytes_of l.under_way.items) l.progress;
  faults : l.reader.faults ≡ l.initial.reader.faults;
}

abbrev pub decreases-loop-reader : goal.decreases-loop-reader
decreases-loop-reader g l = deque_len l.under_way
