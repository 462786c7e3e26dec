-- What rows show by themselves, and which rows are a certificate (own).
use Rattle.std.specs.Prelude.{ℕ, ◌≡◌, ◌+◌, ◌<◌, ◌≤◌, List, Option, Some, None, map, Contains, suc}
use Rattle.std.specs.List.Sorted.{IsStrictlyIncreasing}
use Rattle.std.specs.Option.{option_map_or}
use Rattle.step_trace.specs.declared.rows.Miss.{Miss}
use Rattle.step_trace.specs.declared.rows.Gap.{Gap}
use Rattle.step_trace.specs.declared.rows.Row.{Row}
use Rattle.step_trace.specs.Traces.{Recorded}
use Rattle.step_trace.specs.Ticks.{tick_of}
use Rattle.step_trace.specs.Witnesses.{IsMiss, MissRefutes, IsGap, GapRefutes}
use Rattle.step_trace.specs.Fronts.{triple_of, Triple, IsOnFront}
use Rattle.step_trace.specs.ReportRows.{row_at}

-- the tick after the stretch of row k: the stabilization time of the next row, or the tick after the last
abbrev pub after_stretch : List Row → ℕ → ℕ → ℕ
after_stretch rows last k = option_map_or (λ r. r.gst) (row_at rows (suc k)) (last + 1)

-- row k, which is r, applies to tick g: g is in its stretch
pub record Serves (rows : List Row) (last k : ℕ) (r : Row) (g : ℕ) : Type 0 where
  pub row : row_at rows k ≡ Some r
  pub from : r.gst ≤ g
  pub until : g < after_stretch rows last k

-- The witness beside the communication bound d shows, from each tick before `after`, that no smaller positive bound
-- holds. It is nothing beside 1; else a miss one tick shorter than d, of a message sent in the tick before `after`
-- or later.
abbrev pub ShowsDelta : ℕ → Recorded → ℕ → ℕ → Option Miss → Type 0
ShowsDelta set trace after d None = d ≡ 1
ShowsDelta set trace after d (Some m) =
    (1 < d) × IsMiss set trace m × (tick_of trace m.sent + d ≡ tick_of trace m.missed + 1)
    × (after ≤ tick_of trace m.sent + 1)

-- the witness beside the processor bound f shows the same of it: a gap that is one tick shorter
abbrev pub ShowsPhi : ℕ → Recorded → ℕ → ℕ → Option Gap → Type 0
ShowsPhi set trace after f None = f ≡ 1
ShowsPhi set trace after f (Some w) =
    (1 < f) × IsGap set trace w × (w.from + f ≡ w.to + 2) × (after ≤ w.from + 1)

-- Of the misses of messages sent in tick g or later one of the longest, and of these the one sent last. (Two
-- lengths are compared by sums, so that nothing is taken away.)
pub record IsLongestMiss (set : ℕ) (trace : Recorded) (g : ℕ) (m : Miss) : Type 0 where
  pub miss : IsMiss set trace m
  pub from : g ≤ tick_of trace m.sent
  pub longest : (o : Miss) → IsMiss set trace o → g ≤ tick_of trace o.sent
      → tick_of trace o.missed + tick_of trace m.sent ≤ tick_of trace m.missed + tick_of trace o.sent
  pub greatest : (o : Miss) → IsMiss set trace o → g ≤ tick_of trace o.sent
      → tick_of trace o.missed + tick_of trace m.sent ≡ tick_of trace m.missed + tick_of trace o.sent → o.sent ≤ m.sent

-- of the gaps that begin in tick g or later one of the longest, then the one that begins last, then of the least
-- processor
pub record IsLongestGap (set : ℕ) (trace : Recorded) (g : ℕ) (w : Gap) : Type 0 where
  pub gap : IsGap set trace w
  pub from : g ≤ w.from
  pub longest : (o : Gap) → IsGap set trace o → g ≤ o.from → o.to + w.from ≤ w.to + o.from
  pub greatest : (o : Gap) → IsGap set trace o → g ≤ o.from → o.to + w.from ≡ w.to + o.from → o.from ≤ w.from
  pub least : (o : Gap) → IsGap set trace o → o.from ≡ w.from → o.to ≡ w.to → w.proc ≤ o.proc

-- The rows certify themselves: their triples are the front, in rising stabilization time. The witnesses of each
-- refute every smaller positive bound from every tick that it applies to.
pub record Certifies (set : ℕ) (trace : Recorded) (rows : List Row) : Type 0 where
  pub rising : IsStrictlyIncreasing (map (λ r. r.gst) rows)
  pub sound : (r : Row) → Contains rows r → IsOnFront set trace (triple_of r)
  pub complete : (t : Triple) → IsOnFront set trace t → Contains (map triple_of rows) t
  pub miss : (k g d : ℕ) (r : Row) → Serves rows trace.last k r g → 1 ≤ d → d < r.delta
      → (m : Miss) × (r.miss ≡ Some m) × MissRefutes set trace g d m
  pub gap : (k g f : ℕ) (r : Row) → Serves rows trace.last k r g → 1 ≤ f → f < r.phi
      → (w : Gap) × (r.gap ≡ Some w) × GapRefutes set trace g f w

-- No row names a witness beside the bound 1, below which no positive bound is left to refute.
pub record NamesNothingBesideOne (rows : List Row) : Type 0 where
  pub miss : (r : Row) → Contains rows r → r.delta ≡ 1 → r.miss ≡ None
  pub gap : (r : Row) → Contains rows r → r.phi ≡ 1 → r.gap ≡ None
