use Rattle.std.proofs.Common.{◌≡◌, ◌+◌, ℕ, length}
use Rattle.picture_marks.specs.Messages.{taker, taker_in}
use Rattle.picture_marks.proofs.takers.takers.Given as goal

abbrev pub invariant-loop-i : goal.invariant-loop-i
invariant-loop-i l = record {
  len : length l.takers.items ≡ length l.trace.steps + 1;
  each : (s : ℕ) → taker_in l.takers.items s ≡ taker l.trace.steps l.i s;
}
