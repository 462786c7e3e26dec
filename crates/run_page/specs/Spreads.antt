-- Evidence by the clock, and which of it there is only because events were moved to later ticks
-- (own). Times are those of a table.
use Rattle.std.specs.Prelude.{ℕ, ◌≡◌, ◌↔◌, ◌-◌, ◌+◌, ◌*◌, ◌<◌, Bool, IsTrue, List, Option}
use Rattle.std.specs.Prelude.{Some, None, option_map, slice_get, suc, zero, if◌then◌else◌}
use Rattle.std.specs.Option.{option_and_then}
use Rattle.step_trace.specs.Traces.{Recorded}
use Rattle.step_tables.specs.Records.{time_at}
use Rattle.step_tables.specs.Told.{Said}
use Rattle.run_story.specs.declared.delays.Delay.{Delay}
use Rattle.run_story.specs.declared.evidence.Evidence.{Evidence}
use Rattle.run_story.specs.declared.stalls.Stall.{Stall}
use Rattle.run_page.specs.TickSteps.{IsStepIn}

-- how long after one step another one was made, by the clock, if both have times; 0 if it wasn't made after it
abbrev pub passed : List Said → ℕ → ℕ → Option ℕ
passed said from to = option_and_then (λ a. option_map (λ b. b - a) (time_at said to)) (time_at said from)

-- a silence takes so long by the clock: from the step right before it to the one right after it
pub record Lasts (trace : Recorded) (said : List Said) (s : Stall) (time : ℕ) : Type 0 where
  pub before : ℕ
  pub after : ℕ
  pub step_before : IsStepIn trace s.gap.proc (s.gap.from - 1) before
  pub step_after : IsStepIn trace s.gap.proc (s.gap.to + 1) after
  pub is : passed said before after ≡ Some time

-- a time is less than half of so many ticks of this length
abbrev pub IsLessThanHalf : ℕ → ℕ → ℕ → Type 0
IsLessThanHalf width ticks time = 2 * time < ticks * width

-- a silence of which the clock shows less than half
abbrev pub IsSpreadStall : Recorded → List Said → ℕ → Stall → Type 0
IsSpreadStall trace said width s = (time : ℕ) × Lasts trace said s time
    × IsLessThanHalf width (s.gap.to - (s.gap.from - 1)) time

-- a late message, from its Send to the Receive that misses it, likewise
abbrev pub IsSpreadDelay : List Said → ℕ → Delay → Type 0
IsSpreadDelay said width d = (time : ℕ) × (passed said d.miss.sent d.miss.missed ≡ Some time)
    × IsLessThanHalf width d.ticks time

-- evidence is made by the spread alone if each part of it is
abbrev pub IsSpread : Recorded → List Said → ℕ → Option Stall → Option Delay → Type 0
IsSpread trace said width (Some s) (Some d) = IsSpreadStall trace said width s × IsSpreadDelay said width d
IsSpread trace said width (Some s) None = IsSpreadStall trace said width s
IsSpread trace said width None (Some d) = IsSpreadDelay said width d
IsSpread trace said width None None = ⊥

-- the evidence at place n is made by the spread alone just if the flag is set
pub record IsSpreadAt (trace : Recorded) (said : List Said) (width : ℕ) (list : List Evidence) (n : ℕ)
    (made : Bool) : Type 0 where
  pub evidence : Evidence
  pub there : slice_get list n ≡ Some evidence
  pub flag : IsTrue made ↔ IsSpread trace said width evidence.stall evidence.delay

-- so many of the first n pieces of evidence are
abbrev pub IsSpreadCount : Recorded → List Said → ℕ → List Evidence → ℕ → ℕ → Type 0
IsSpreadCount trace said width list zero count = count ≡ 0
IsSpreadCount trace said width list (suc n) count = (before : ℕ) × (flag : Bool)
    × IsSpreadCount trace said width list n before × IsSpreadAt trace said width list n flag
    × (count ≡ (if flag then before + 1 else before))
