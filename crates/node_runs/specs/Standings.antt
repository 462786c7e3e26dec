-- The least bounds of a trace at its last tick.
use Rattle.std.specs.Prelude.{ℕ, ◌≡◌, ◌-◌, ◌≤◌, Option, Some, None, nat_le, if◌then◌else◌}
use Rattle.step_trace.specs.Bounds.{IsDelta, IsPhi}
use Rattle.step_trace.specs.Witnesses.{IsGap}
use Rattle.step_trace.specs.Traces.{Recorded}
use Rattle.node_runs.specs.declared.standings.LeastBounds.{LeastBounds}
use Rattle.node_runs.specs.declared.standings.Standing.{Standing}
use Rattle.node_runs.specs.declared.standings.TheConstants.{RECENT_TICKS}

-- the least bounds of the trace from their tick on
pub record AreLeastBounds (set : ℕ) (trace : Recorded) (bounds : LeastBounds) : Type 0 where
  pub low : 1 ≤ bounds.from
  pub high : bounds.from ≤ trace.last
  pub delta : IsDelta set trace bounds.from bounds.delta
  pub phi : IsPhi set trace bounds.from bounds.phi

-- so many ticks before the last one, or 1 if there are no more
abbrev pub recent_tick : ℕ → ℕ
recent_tick last = if nat_le last RECENT_TICKS then 1 else last - RECENT_TICKS

-- member p makes no step from tick g to the last
abbrev pub IsSilentSince : ℕ → Recorded → ℕ → ℕ → Type 0
IsSilentSince set trace g p = IsGap set trace (record { proc = p; from = g; to = trace.last })

-- the least such member, or none if each member makes a step
abbrev pub NamesSilent : ℕ → Recorded → ℕ → Option ℕ → Type 0
NamesSilent set trace g None = (p : ℕ) → ¬ IsSilentSince set trace g p
NamesSilent set trace g (Some p) = IsSilentSince set trace g p × ((o : ℕ) → IsSilentSince set trace g o → p ≤ o)

-- the last tick, the least bounds from the first tick and from the recent one on, and who makes no step from the latter
-- on
pub record StandsSo (set : ℕ) (trace : Recorded) (s : Standing) : Type 0 where
  pub tick : s.tick ≡ trace.last
  pub first : s.whole.from ≡ 1
  pub whole : AreLeastBounds set trace s.whole
  pub since : s.recent.from ≡ recent_tick trace.last
  pub recent : AreLeastBounds set trace s.recent
  pub silent : NamesSilent set trace (recent_tick trace.last) s.silent

-- the bounds of a trace at its last tick, or none if it has no tick
abbrev pub IsStanding : ℕ → Recorded → Option Standing → Type 0
IsStanding set trace None = trace.last ≡ 0
IsStanding set trace (Some s) = StandsSo set trace s
