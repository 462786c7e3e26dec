use Rattle.std.proofs.Common.{◌≡◌, ◌≤◌, ◌-◌, take, length}
use Rattle.std.specs.Io.KnownBytes.{Appends}
use Rattle.trace_text.proofs.byte_loops.write_text.Given as goal

-- the front of the text went out, and no call failed
abbrev pub invariant-loop-written : goal.invariant-loop-written
invariant-loop-written g l = record {
  limit : l.written ≤ length l.text;
  front : Appends (g.W.Write.contents l.initial.writer.inner) (g.W.Write.contents l.writer.inner) (take l.written l.text);
  faults : l.writer.faults ≡ l.initial.writer.faults;
  idle_writes : l.writer.idle_writes ≡ l.initial.writer.idle_writes;
}

abbrev pub decreases-loop-written : goal.decreases-loop-written
decreases-loop-written g l = length l.text - l.written
