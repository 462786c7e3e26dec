use Rattle.std.proofs.Common.{◌≡◌, ◌++◌}
use Rattle.std.specs.VecDeque.{deque_len}
use Rattle.shared_reading.specs.UnderWay.{bytes_of}
use Rattle.shared_reading.proofs.shared_texts.put_back.Given as goal

-- the bytes so far, and behind them those of the pieces that are left, are all bytes
abbrev pub invariant-loop-next : goal.invariant-loop-next
invariant-loop-next g l = l.all.items ++ bytes_of l.under_way.items ≡ l.fn.bytes.items ++ bytes_of l.initial.under_way.items

abbrev pub decreases-loop-next : goal.decreases-loop-next
decreases-loop-next g l = deque_len l.under_way
