-- How many ticks the silences that get a receive of nothing have at most.
use Rattle.std.specs.Prelude.{ℕ, ◌/◌, Option, Some, None, Result, Ok, Err}
use Rattle.timed_events.specs.declared.events.Clock.{Clock}
use Rattle.trace_text.specs.Records.{◌>>=◌}
use Rattle.event_log.specs.declared.options.Options.{Options}
use Rattle.event_log.specs.declared.refusals.LogError.{LogError}
use Rattle.event_log.specs.declared.refusals.LogError.TheVariants.{IdleUnfit}
use Rattle.event_log.specs.declared.times.TimeKind.{TimeKind}
use Rattle.event_log.specs.declared.times.TimeKind.TheVariants as kind
use Rattle.event_log.specs.declared.times.Width.{Width}
use Rattle.event_log.specs.declared.times.Width.TheVariants.{Units, Nanoseconds}
use Rattle.event_log.specs.TickClocks.{units_in}

-- a silence as times of this kind are counted: a duration doesn't fit numbers of no unit
abbrev pub idle_in : TimeKind → Width → Result ℕ LogError
idle_in k (Units n) = Ok (units_in k n)
idle_in kind.Number (Nanoseconds n) = Err IdleUnfit
idle_in k (Nanoseconds n) = Ok n

-- how many ticks of a clock a silence that gets a receive of nothing has at most, if its longest time is given
abbrev pub limit_of : TimeKind → Option Width → Clock → Result (Option ℕ) LogError
limit_of k None clock = Ok None
limit_of k (Some idle) clock = idle_in k idle >>= λ x. Ok (Some (x / clock.width))

abbrev pub limit_in : Options → TimeKind → Clock → Result (Option ℕ) LogError
limit_in o k clock = limit_of k o.idle clock
