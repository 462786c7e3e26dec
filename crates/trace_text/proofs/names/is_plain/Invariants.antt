use Rattle.std.proofs.Common.{ℕ, ◌≡◌, ◌≤◌, ◌<◌}
use Rattle.std.specs.Prelude.{slice_index}
use Rattle.trace_text.proofs.names.is_plain.Given as goal

-- the bytes so far are printable, and others than that one
abbrev pub invariant-loop-byte : goal.invariant-loop-byte
invariant-loop-byte l = (k : ℕ) → k < l.byte-index
    → (32 ≤ slice_index l.name k) × (slice_index l.name k ≤ 126) × ¬ (slice_index l.name k ≡ l.other)
