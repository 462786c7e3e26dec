use Rattle.std.proofs.Common.{ℕ, ◌≡◌, ◌<◌, ◌≤◌, length, get_or}
use Rattle.certificate_checker.specs.Closings.{IsLatest}
use Rattle.certificate_checker.proofs.closings.carry.Given as goal

-- the places before x have the latest end so far
abbrev pub invariant-loop-x : goal.invariant-loop-x
invariant-loop-x l = record {
  long : length l.ends.items ≡ length l.fn.ends.items;
  each : (y : ℕ) → y < l.x → IsLatest l.fn.ends.items y (get_or l.ends.items y 0);
  rest : (y : ℕ) → l.x ≤ y → get_or l.ends.items y 0 ≡ get_or l.fn.ends.items y 0;
  all : (y : ℕ) → y < l.x → get_or l.fn.ends.items y 0 ≤ l.latest;
  own : l.x < l.latest → (y : ℕ) × (y < l.x) × (get_or l.fn.ends.items y 0 ≡ l.latest);
}
