-- The longest misses and gaps, from one place on (own).
use Rattle.std.specs.Prelude.{ℕ, length, ◌≡◌, ◌+◌, ◌-◌, ◌<◌, ◌≤◌, Option, Some}
use Rattle.std.specs.Prelude.{None, MatchOption, nat_lt, if◌then◌else◌}
use Rattle.step_trace.specs.declared.rows.Miss.{Miss}
use Rattle.step_trace.specs.declared.rows.Gap.{Gap}
use Rattle.step_trace.specs.declared.steps.Step.{Step}
use Rattle.step_trace.specs.Traces.{Recorded, step_at}
use Rattle.step_trace.specs.Ticks.{tick_of}
use Rattle.step_trace.specs.Witnesses.{IsMiss, IsGap}

-- message s has no miss
abbrev pub HasNoMiss : ℕ → Recorded → ℕ → Type 0
HasNoMiss set trace s = (o : Miss) → IsMiss set trace o → o.sent ≡ s → ⊥

-- the last miss of message s
pub record IsLastMiss (set : ℕ) (trace : Recorded) (s : ℕ) (m : Miss) : Type 0 where
  pub miss : IsMiss set trace m
  pub sent : m.sent ≡ s
  pub last : (o : Miss) → IsMiss set trace o → o.sent ≡ s → tick_of trace o.missed ≤ tick_of trace m.missed

-- no message after this number has a miss
abbrev pub HasNoMissAfter : ℕ → Recorded → ℕ → Type 0
HasNoMissAfter set trace done = (o : Miss) → IsMiss set trace o → done < o.sent → ⊥

-- Of the misses of messages after this number one of the longest, and of these the one sent last. (Two lengths are
-- compared by sums, so that nothing is taken away.)
pub record IsLongestMissAfter (set : ℕ) (trace : Recorded) (done : ℕ) (m : Miss) : Type 0 where
  pub miss : IsMiss set trace m
  pub after : done < m.sent
  pub longest : (o : Miss) → IsMiss set trace o → done < o.sent
      → tick_of trace o.missed + tick_of trace m.sent ≤ tick_of trace m.missed + tick_of trace o.sent
  pub greatest : (o : Miss) → IsMiss set trace o → done < o.sent
      → tick_of trace o.missed + tick_of trace m.sent ≡ tick_of trace m.missed + tick_of trace o.sent → o.sent ≤ m.sent

-- that miss, or None if there is none
abbrev pub KnowsMissesAfter : ℕ → Recorded → ℕ → Option Miss → Type 0
KnowsMissesAfter set trace done found = MatchOption found (HasNoMissAfter set trace done)
    (IsLongestMissAfter set trace done)

-- the steps after this number are in tick g or later
abbrev pub AreFrom : Recorded → ℕ → ℕ → Type 0
AreFrom trace done g = (k : ℕ) (x : Step) → step_at trace.steps k ≡ Some x → done < k → g ≤ tick_of trace k

-- the steps up to this number are in earlier ticks than g
abbrev pub AreBefore : Recorded → ℕ → ℕ → Type 0
AreBefore trace done g = (k : ℕ) (x : Step) → step_at trace.steps k ≡ Some x → k ≤ done → tick_of trace k < g

-- no member is silent from tick x on
abbrev pub HasNoGapAt : ℕ → Recorded → ℕ → Type 0
HasNoGapAt set trace x = (o : Gap) → IsGap set trace o → o.from ≡ x → ⊥

-- of the gaps that begin in tick x the longest, and of these that of the least processor
pub record IsLongestGapAt (set : ℕ) (trace : Recorded) (x : ℕ) (w : Gap) : Type 0 where
  pub gap : IsGap set trace w
  pub from : w.from ≡ x
  pub longest : (o : Gap) → IsGap set trace o → o.from ≡ x → o.to ≤ w.to
  pub least : (o : Gap) → IsGap set trace o → o.from ≡ x → o.to ≡ w.to → w.proc ≤ o.proc

-- two steps of the trace, of which the second isn't in an earlier tick
pub record HasSpan (trace : Recorded) (m : Miss) : Type 0 where
  pub sent_low : 1 ≤ m.sent
  pub sent_high : m.sent ≤ length trace.steps
  pub missed_low : 1 ≤ m.missed
  pub missed_high : m.missed ≤ length trace.steps
  pub order : tick_of trace m.sent ≤ tick_of trace m.missed

-- how long a miss is, in ticks
abbrev pub span_of : Recorded → Miss → ℕ
span_of trace m = tick_of trace m.missed - tick_of trace m.sent

-- the longer of two misses: the second if they are equally long
abbrev pub longer_miss : Recorded → Option Miss → Option Miss → Option Miss
longer_miss trace None w = w
longer_miss trace (Some v) None = Some v
longer_miss trace (Some v) (Some w) = if nat_lt (span_of trace w) (span_of trace v) then Some v else Some w
