-- Silences as runs of rows that name them (own). Places of rows count from 0.
use Rattle.std.specs.Prelude.{ℕ, ◌≡◌, ◌+◌, ◌-◌, ◌<◌, ◌≤◌, List, length, Option, Some, IsSome, IsSomeAnd, slice_get}
use Rattle.std.specs.Option.{option_and_then}
use Rattle.step_trace.specs.declared.rows.Gap.{Gap}
use Rattle.step_trace.specs.declared.rows.Row.{Row}
use Rattle.step_trace.specs.Ticks.{StepsIn}
use Rattle.step_trace.specs.Traces.{Recorded}
use Rattle.run_story.specs.declared.stalls.Stall.{Stall}
use Rattle.run_story.specs.Stretches.{AreStretches}

-- the gap of the row at place k, if there is one
abbrev pub gap_at : List Row → ℕ → Option Gap
gap_at rows k = option_and_then (λ r. r.gap) (slice_get rows k)

-- the row at place k names the silence of this gap: its own is of the same processor and ends in the same tick
abbrev pub NamesSilence : List Row → Gap → ℕ → Type 0
NamesSilence rows w k = IsSomeAnd (gap_at rows k) (λ o. (o.proc ≡ w.proc) × (o.to ≡ w.to))

-- the rows from place `first` to place k name one silence, whose gap is that of the first
pub record IsStallUpTo (rows : List Row) (s : Stall) : Type 0 where
  pub named : gap_at rows s.first ≡ Some s.gap
  pub order : s.first ≤ s.last
  pub inside : s.last < length rows
  pub each : (k : ℕ) → s.first ≤ k → k ≤ s.last → NamesSilence rows s.gap k

-- and the next row doesn't
pub record IsStall (rows : List Row) (s : Stall) : Type 0 where
  pub named : IsStallUpTo rows s
  pub ends : ¬ NamesSilence rows s.gap (s.last + 1)

-- the stalls of rows that end before place n: each row before it with a gap is in one
abbrev pub AreStallsTo : List Row → ℕ → List Stall → Type 0
AreStallsTo rows n stalls = AreStretches Stall (λ s. s.first) (λ s. s.last) (IsStall rows)
    (λ k. IsSome (gap_at rows k)) n stalls

-- the stalls of rows
abbrev pub AreStalls : List Row → List Stall → Type 0
AreStalls rows stalls = AreStallsTo rows (length rows) stalls

-- a gap that is a whole silence: right before it and right after it its processor takes a step, unless the trace begins
-- or ends there
pub record IsWholeSilence (trace : Recorded) (w : Gap) : Type 0 where
  pub before : 1 < w.from → StepsIn trace (w.from - 1) w.proc
  pub after : w.to < trace.last → StepsIn trace (w.to + 1) w.proc
