-- How a log tells time, by the table of a trace's steps (own).
use Rattle.std.specs.Prelude.{ℕ, ◌≡◌, ◌*◌, ◌⊎◌, List, Option, Some, None, if◌then◌else◌, nat_le}
use Rattle.std.specs.Option.{option_and_then}
use Rattle.step_trace.specs.Traces.{Recorded}
use Rattle.step_tables.specs.Told.{Said}
use Rattle.step_tables.specs.TickBegins.{AreTickTimes, AreUntimed}
use Rattle.step_tables.specs.declared.tick_begins.TickTimes.{TickTimes}
use Rattle.run_words.specs.Clocks.{clock_of}
use Rattle.run_words.specs.declared.clocks.Clock.{Clock}
use Rattle.run_words.specs.declared.clocks.TheConstants.{LONGEST}
use Rattle.run_words.specs.declared.log_words.TheConstants.{STAMPS}

-- How many nanoseconds the unit of times has: so many as are given. If none are, times from STAMPS on are nanoseconds
-- since 1970, and the unit of earlier ones isn't known.
abbrev pub unit_for : Option ℕ → ℕ → Option ℕ
unit_for (Some unit) first = Some unit
unit_for None first = if nat_le STAMPS first then Some 1 else None

-- the clock of so many ticks of so many nanoseconds, unless one tick is longer than is told
abbrev pub clock_within : ℕ → ℕ → Option Clock
clock_within width ticks = if nat_le width LONGEST then clock_of width ticks else None

-- the clock by which so many ticks begin at these times, if the unit of the times is known
abbrev pub clock_by : Option ℕ → ℕ → TickTimes → Option Clock
clock_by unit ticks t = option_and_then (λ u. clock_within (t.width * u) ticks) (unit_for unit t.first)

-- the clock tells the times at which the ticks of a trace begin, by what a table says about its steps
pub record IsClockOf (trace : Recorded) (said : List Said) (unit : Option ℕ) (c : Clock) : Type 0 where
  pub times : TickTimes
  pub fit : AreTickTimes trace said times
  pub clock : clock_by unit trace.last times ≡ Some c

-- the table doesn't say when ticks begin, or these times have no clock
abbrev pub IsUnclocked : Recorded → List Said → Option ℕ → Type 0
IsUnclocked trace said unit = AreUntimed trace said
    ⊎ ((t : TickTimes) × AreTickTimes trace said t × (clock_by unit trace.last t ≡ None))
