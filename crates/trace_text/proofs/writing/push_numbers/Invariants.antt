use Rattle.std.proofs.Common.{◌≡◌, ◌++◌, take}
use Rattle.trace_text.proofs.WrittenRecords.{with_behind}
use Rattle.trace_text.proofs.writing.push_numbers.Given as goal

-- the numbers so far, each with the byte behind it
abbrev pub invariant-loop-number : goal.invariant-loop-number
invariant-loop-number l = l.text.items ≡ l.fn.text.items ++ with_behind l.between (take l.number-index l.front)
