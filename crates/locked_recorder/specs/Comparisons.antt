-- Comparisons: how what the seats did is compared with a trace, one step after the other.
use Rattle.std.specs.Prelude.{ℕ, ◌≡◌, ◌≢◌, ◌+◌, ◌<◌, ◌≤◌, List, length, take}
use Rattle.std.specs.Prelude.{Option, Some, None, slice_get, slice_index_or}
use Rattle.step_trace.specs.declared.steps.Step.{Step}
use Rattle.step_trace.specs.Configurations.{Setup}
use Rattle.step_buffers.specs.declared.moves.Done.{Done}
use Rattle.locked_recorder.specs.Seats.{Turns}
use Rattle.locked_recorder.specs.Audits.{all_done, done_of, Agrees}

-- After n steps of a trace, the first k things that the seat did are what its processor did in these steps. Or
-- what it did isn't what its processor does in the trace.
abbrev pub IsCompared : Setup → List Step → ℕ → Turns → Option ℕ → Type 0
IsCompared c steps n s (Some k) = (done_of (take n (all_done c steps)) s.proc ≡ take k s.done) × (k ≤ length s.done)
IsCompared c steps n s None = ¬ Agrees c steps s

-- so it is of each seat
pub record AreCompared (c : Setup) (steps : List Step) (n : ℕ) (seats : List Turns)
    (agreed : List (Option ℕ)) : Type 0 where
  pub count : length agreed ≡ length seats
  pub each : (i : ℕ) (s : Turns) (m : Option ℕ) → i < length seats
      → IsCompared c steps n (slice_index_or seats i s) (slice_index_or agreed i m)

-- how many agree once the processor did one thing more: one more, if that comes next in the list; none if
-- anything differs
abbrev pub IsNextAgreed : List Done → Done → Option ℕ → Option ℕ → Type 0
IsNextAgreed own d (Some k) (Some m) = (slice_get own k ≡ Some d) × (m ≡ k + 1)
IsNextAgreed own d (Some k) None = slice_get own k ≢ Some d
IsNextAgreed own d None m = m ≡ None

-- all that the seat did agrees; and of each of the first n seats
abbrev pub IsWhole : Turns → Option ℕ → Type 0
IsWhole s m = m ≡ Some (length s.done)

abbrev pub AreWhole : List Turns → List (Option ℕ) → ℕ → Type 0
AreWhole seats agreed n = (i : ℕ) (s : Turns) (m : Option ℕ) → i < n
    → IsWhole (slice_index_or seats i s) (slice_index_or agreed i m)
