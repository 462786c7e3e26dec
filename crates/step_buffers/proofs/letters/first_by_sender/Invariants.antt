use Rattle.std.proofs.Common.{ℕ, ◌≡◌, ◌+◌, ◌≤◌, drop, get_or, length}
use Rattle.step_buffers.specs.Letters.{letter_at, said_by, body_from}
use Rattle.step_buffers.proofs.letters.first_by_sender.Given as goal

-- the ids from k on are scanned
abbrev pub invariant-loop-k : goal.invariant-loop-k
invariant-loop-k l = record {
  long : length l.first.items ≡ l.n + 1;
  within : l.k ≤ length l.ids;
  each : (q : ℕ) → q ≤ l.n → said_by q (letter_at l.letters (get_or l.first.items q 0)) ≡ body_from l.letters (drop l.k l.ids) q;
}
