-- In which columns of ticks each processor makes steps (own). A stroke is a longest run of such columns.
use Rattle.std.specs.Prelude.{ℕ, ◌≡◌, ◌<◌, ◌≤◌, ◌+◌, ◌*◌, ◌==◌, ◌&&◌, ◌↔◌, Bool, true, false, IsTrue, List}
use Rattle.std.specs.Prelude.{if◌then◌else◌, min, max, nat_le, nat_lt, slice_index_or, suc, zero}
use Rattle.step_trace.specs.declared.processors.TheConstants.{MAX_MEMBER}
use Rattle.step_trace.specs.Ticks.{StepsIn, tick_of}
use Rattle.step_trace.specs.Traces.{Recorded}
use Rattle.picture_marks.specs.Messages.{proc_of}
use Rattle.picture_marks.specs.Rows.{column_in}
use Rattle.picture_marks.specs.declared.report_rows.TheConstants.{COLUMNS}
use Rattle.picture_marks.specs.declared.strokes.Stroke.{Stroke}
use Rattle.picture_marks.specs.declared.strokes.Strokes.{Strokes}

-- processor p makes a step in a tick that begins in column c, of so many columns for all ticks
pub record StepsInColumn (trace : Recorded) (columns p c : ℕ) : Type 0 where
  pub tick : ℕ
  pub steps : StepsIn trace tick p
  pub column : column_in columns trace.last tick ≡ c

-- whether this is one of processor p in column c, by a list that has COLUMNS columns for each processor
abbrev pub busy_at : List Bool → ℕ → ℕ → Bool
busy_at busy p c = slice_index_or busy (p * COLUMNS + c) false

-- whether processor p has a stroke in column c
abbrev pub has_stroke : Strokes → ℕ → ℕ → Bool
has_stroke s p c = if nat_le p MAX_MEMBER && nat_lt c COLUMNS then busy_at s.busy.items p c else false

-- processors have strokes just in the columns in which they make steps, of the first COLUMNS ones
pub record ShowsSteps (trace : Recorded) (s : Strokes) : Type 0 where
  pub each : (p c : ℕ) → p ≤ MAX_MEMBER → c < COLUMNS → IsTrue (has_stroke s p c) ↔ StepsInColumn trace s.columns p c

-- step k is one of processor p in column c
abbrev pub is_in_column : Recorded → ℕ → ℕ → ℕ → ℕ → Bool
is_in_column trace columns p c k = proc_of trace.steps k == p && column_in columns trace.last (tick_of trace k) == c

-- whether one of the first n steps is
abbrev pub steps_to : Recorded → ℕ → ℕ → ℕ → ℕ → Bool
steps_to trace columns p c zero = false
steps_to trace columns p c (suc n) = if is_in_column trace columns p c
    (suc n) then true else steps_to trace columns p c n

-- how many columns a picture has for so many ticks: one for each, up to COLUMNS
abbrev pub columns_for : ℕ → ℕ
columns_for last = min (max last 1) COLUMNS

-- the first stroke of processor p from this column on: a step in each of its columns, none in those
-- before it, and none in the one after it
pub record IsNextStroke (s : Strokes) (p from : ℕ) (k : Stroke) : Type 0 where
  pub begins : from ≤ k.first
  pub some : k.first < k.end
  pub before : (c : ℕ) → from ≤ c → c < k.first → has_stroke s p c ≡ false
  pub each : (c : ℕ) → k.first ≤ c → c < k.end → has_stroke s p c ≡ true
  pub after : has_stroke s p k.end ≡ false
