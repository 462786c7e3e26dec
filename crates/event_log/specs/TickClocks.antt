-- How the times of a log become ticks.
use Rattle.std.specs.Prelude.{ℕ, ◌*◌, Option, Some, None, Result, Ok, Err, nat_lt, if◌then◌else◌, ℤ, pos}
use Rattle.timed_events.specs.declared.events.Clock.{Clock}
use Rattle.trace_text.specs.Records.{◌>>=◌}
use Rattle.event_log.specs.declared.options.Options.{Options}
use Rattle.event_log.specs.declared.refusals.LogError.{LogError}
use Rattle.event_log.specs.declared.refusals.LogError.TheVariants.{TickUnfit, UntilUnfit}
use Rattle.event_log.specs.declared.times.LogEnd.{LogEnd}
use Rattle.event_log.specs.declared.times.LogEnd.TheVariants as end
use Rattle.event_log.specs.declared.times.TimeKind.{TimeKind}
use Rattle.event_log.specs.declared.times.TimeKind.TheVariants as kind
use Rattle.event_log.specs.declared.times.Width.{Width}
use Rattle.event_log.specs.declared.times.Width.TheVariants.{Units, Nanoseconds}
use Rattle.event_log.specs.Times.{nanoseconds_in}

-- a length above 0
abbrev pub above_zero : ℕ → Result ℕ LogError
above_zero n = if nat_lt 0 n then Ok n else Err TickUnfit

-- a duration doesn't fit numbers of any unit
abbrev pub duration_in : TimeKind → ℕ → Result ℕ LogError
duration_in kind.Number n = Err TickUnfit
duration_in k n = above_zero n

-- so many units of times of this kind: of their own unit, if one is given, and else of that in which they are counted
abbrev pub units_in : TimeKind → ℕ → ℕ
units_in (kind.Whole unit) n = n * nanoseconds_in unit
units_in k n = n

-- the length of a tick as times of this kind are counted; one of 0 fits no times
abbrev pub width_in : TimeKind → Width → Result ℕ LogError
width_in k (Units n) = above_zero (units_in k n)
width_in k (Nanoseconds n) = duration_in k n

-- The end of a log as times of this kind are counted. A whole number is one among the times. A duration or decimal
-- seconds fit whole numbers of a unit and decimal seconds; a time stamp fits those of its own kind.
abbrev pub end_in : TimeKind → LogEnd → Result ℤ LogError
end_in kind.Number (end.Number n) = Ok (pos n)
end_in (kind.Whole unit) (end.Number n) = Ok (pos (n * nanoseconds_in unit))
end_in (kind.Whole unit) (end.Nanoseconds x) = Ok x
end_in kind.Decimal (end.Number n) = Ok (pos (n * 1000000000))
end_in kind.Decimal (end.Nanoseconds x) = Ok x
end_in kind.Stamp (end.Stamp x) = Ok x
end_in kind.Local (end.Local x) = Ok x
end_in k other = Err UntilUnfit

-- when a log with times of this kind ends, if that is given
abbrev pub until_in : TimeKind → Option LogEnd → Result (Option ℤ) LogError
until_in k None = Ok None
until_in k (Some e) = end_in k e >>= λ x. Ok (Some x)

-- the clock of a log with times of this kind
abbrev pub clock_in : Options → TimeKind → Result Clock LogError
clock_in o k = width_in k o.width >>= λ w. until_in k o.until >>= λ u. Ok (record { width = w; until = u })
