-- The levels of a trace.
use Rattle.std.specs.Prelude.{ℕ, ◌≡◌, ◌+◌, ◌-◌, ◌<◌, ◌≤◌, List, length, Option}
use Rattle.std.specs.Prelude.{Some, None, slice_get, nat_le, if◌then◌else◌}
use Rattle.step_trace.specs.declared.steps.Step.{Step}
use Rattle.step_trace.specs.declared.rows.Miss.{Miss}
use Rattle.step_trace.specs.declared.rows.Gap.{Gap}
use Rattle.step_trace.specs.Bounds.{IsDelta, IsPhi}
use Rattle.step_trace.specs.Ticks.{tick_of}
use Rattle.step_trace.specs.Traces.{Recorded, step_at}
use Rattle.step_trace.specs.Witnesses.{IsMiss, IsGap, NamesMiss, NamesGap}
use Rattle.suffix_staircase.specs.declared.backward_pass.Pass.{Pass}
use Rattle.suffix_staircase.specs.declared.levels.Level.{Level}
use Rattle.suffix_staircase.specs.Levels.{CanStandBefore}
use Rattle.suffix_staircase.specs.NextSteps.{KnowsNextSteps}
use Rattle.suffix_staircase.specs.Receives.{KnowsReceives}

-- the least bounds from tick g on, with their named witnesses
pub record IsLevelAt (set : ℕ) (trace : Recorded) (g : ℕ) (level : Level) : Type 0 where
  pub delta : IsDelta set trace g level.delta
  pub miss : NamesMiss set trace g level.delta level.miss
  pub phi : IsPhi set trace g level.phi
  pub gap : NamesGap set trace g level.phi level.gap

-- one level for each tick of the trace, in their order
pub record AreLevels (set : ℕ) (trace : Recorded) (levels : List Level) : Type 0 where
  pub count : length levels ≡ trace.last
  pub each : (g : ℕ) (level : Level) → 1 ≤ g → slice_get levels (g - 1) ≡ Some level → IsLevelAt set trace g level

-- one level for each tick from x on
pub record AreLevelsFrom (set : ℕ) (trace : Recorded) (x : ℕ) (levels : List Level) : Type 0 where
  pub count : length levels + x ≡ trace.last + 1
  pub each : (k : ℕ) (level : Level) → slice_get levels k ≡ Some level → IsLevelAt set trace (x + k) level

-- each miss of a message sent in tick g or later is shorter than d, and this is the witness of d
pub record KnowsMisses (set : ℕ) (trace : Recorded) (g d : ℕ) (witness : Option Miss) : Type 0 where
  pub shorter : (m : Miss) → IsMiss set trace m → g ≤ tick_of trace m.sent
      → tick_of trace m.missed < tick_of trace m.sent + d
  pub named : NamesMiss set trace g d witness

-- of the misses of length d - 1 of messages after number done, the one of the last message
pub record IsNamedAfter (set : ℕ) (trace : Recorded) (done d : ℕ) (m : Miss) : Type 0 where
  pub miss : IsMiss set trace m
  pub after : done < m.sent
  pub long : tick_of trace m.sent + d ≡ tick_of trace m.missed + 1
  pub greatest : (o : Miss) → IsMiss set trace o → done < o.sent → tick_of trace o.sent + d ≡ tick_of trace o.missed + 1
      → o.sent ≤ m.sent

-- the witness of a communication bound for messages after number done: none at 1
abbrev pub NamesAfter : ℕ → Recorded → ℕ → ℕ → Option Miss → Type 0
NamesAfter set trace done d None = d ≡ 1
NamesAfter set trace done d (Some m) = (1 < d) × IsNamedAfter set trace done d m

-- each miss of a message after number done is shorter than d, and this is the witness of d
pub record KnowsMissesAfter (set : ℕ) (trace : Recorded) (done d : ℕ) (witness : Option Miss) : Type 0 where
  pub shorter : (m : Miss) → IsMiss set trace m → done < m.sent → tick_of trace m.missed < tick_of trace m.sent + d
  pub named : NamesAfter set trace done d witness

-- each gap from tick g on is shorter than f, and this is the witness of f
pub record KnowsGaps (set : ℕ) (trace : Recorded) (g f : ℕ) (witness : Option Gap) : Type 0 where
  pub shorter : (w : Gap) → IsGap set trace w → g ≤ w.from → w.to + 1 < w.from + f
  pub named : NamesGap set trace g f witness

-- what a pass over these members knows that has gone back over the steps after number done
pub record KnowsStepsAfter (set : ℕ) (trace : Recorded) (done : ℕ) (pass : Pass) : Type 0 where
  pub members : pass.set ≡ set
  pub receives : KnowsReceives set trace done pass.receives
  pub next_steps : KnowsNextSteps set trace done pass.next_steps
  pub misses : KnowsMissesAfter set trace done pass.level.delta pass.level.miss

-- and over the ticks from g on, whose levels these are
pub record KnowsTicksFrom (set : ℕ) (trace : Recorded) (done g : ℕ) (pass : Pass) (levels : List Level) : Type 0 where
  pub steps : KnowsStepsAfter set trace done pass
  pub gaps : KnowsGaps set trace g pass.level.phi pass.level.gap
  pub each : AreLevelsFrom set trace g levels
  pub falling : CanStandBefore pass.level levels

-- between the tick of step done and tick `high` there is no step
pub record AreIdleUpTo (trace : Recorded) (done high : ℕ) : Type 0 where
  pub from : tick_of trace done ≤ high
  pub until : high ≤ trace.last
  pub later : (k : ℕ) (x : Step) → step_at trace.steps k ≡ Some x → done < k → high ≤ tick_of trace k

-- the level, with this miss of this length if it refutes the communication bound
abbrev pub with_miss : Level → Miss → ℕ → Level
with_miss level miss long =
    if nat_le level.delta long then
    record { delta = long + 1; miss = Some miss; phi = level.phi; gap = level.gap }
    else level

-- the level, with this gap up to before `until` if it refutes the processor bound
abbrev pub with_gap : Level → ℕ → ℕ → ℕ → Level
with_gap level proc from until =
    if nat_le level.phi (until - from) then
    record {
      delta = level.delta;
      miss = level.miss;
      phi = until - from + 1;
      gap = Some (record { proc = proc; from = from; to = until - 1 });
    }
    else level
