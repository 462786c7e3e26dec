-- The longest silence from a tick on, by the ticks that close each tick (own).
use Rattle.std.specs.Prelude.{ℕ, ◌≡◌, ◌+◌, ◌<◌, ◌≤◌, List, length, slice_index}
use Rattle.step_trace.specs.declared.rows.Row.{Row}
use Rattle.certificate_checker.specs.declared.bounds.LongestSilence.{LongestSilence}
use Rattle.certificate_checker.specs.Verdicts.{HasRow}

-- no tick is closed by an earlier one
abbrev pub IsAhead : List ℕ → Type 0
IsAhead closings = (x : ℕ) → x < length closings → x ≤ slice_index closings x

-- The longest silence from tick g on is from `start` to before `end`: `end` closes `start`, no tick is further from the
-- one that closes it, and none that is as far comes later. If each tick closes itself, `start` and `end` are one. (Two
-- lengths are compared by sums, so that nothing is taken away.)
pub record IsLongestSilence (closings : List ℕ) (g : ℕ) (s : LongestSilence) : Type 0 where
  pub order : s.start ≤ s.end
  pub from : g ≤ s.start
  pub inside : s.start < s.end → s.start < length closings
  pub closed : s.start < s.end → slice_index closings s.start ≡ s.end
  pub longest : (x : ℕ) → g ≤ x → x < length closings → slice_index closings x + s.start ≤ s.end + x
  pub latest : (x : ℕ) → g ≤ x → x < length closings → slice_index closings x + s.start ≡ s.end + x → x ≤ s.start

-- the processor bound of row k is no longer than the longest silence from its stabilization time on, which is s
pub record IsTooShort (closings : List ℕ) (rows : List Row) (k : ℕ) (s : LongestSilence) : Type 0 where
  pub row : HasRow rows k
  pub longest : IsLongestSilence closings row.row.gst s
  pub some : s.start < s.end
  pub short : row.row.phi + s.start ≤ s.end
