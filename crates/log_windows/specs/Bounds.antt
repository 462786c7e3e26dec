-- A window, as the times of a log are counted.
use Rattle.std.specs.Prelude.{ℤ, Bool, true, ◌&&◌, not, Option, Some, None, Result, Ok, Err, int_lt, if◌then◌else◌}
use Rattle.trace_text.specs.Records.{◌>>=◌}
use Rattle.event_log.specs.declared.refusals.LogError.{LogError}
use Rattle.event_log.specs.declared.refusals.LogError.TheVariants.{FromUnfit}
use Rattle.event_log.specs.declared.times.LogEnd.{LogEnd}
use Rattle.event_log.specs.declared.times.TimeKind.{TimeKind}
use Rattle.event_log.specs.TickClocks.{end_in, until_in}
use Rattle.log_windows.specs.declared.bounds.Bounds.{Bounds}
use Rattle.log_windows.specs.declared.bounds.Times.{Times}

-- a start of a window that fits
abbrev pub start_of : Result ℤ LogError → Result ℤ LogError
start_of (Ok first) = Ok first
start_of (Err e) = Err FromUnfit

-- its first time as times of this kind are counted
abbrev pub first_in : TimeKind → LogEnd → Result ℤ LogError
first_in k from = start_of (end_in k from)

-- the window from a time on, to another if that isn't before it
abbrev pub bounds_of : ℤ → Option ℤ → Result Bounds LogError
bounds_of first None = Ok (record { first = first; last = None })
bounds_of first (Some last) = if int_lt last first then Err FromUnfit else Ok
    (record { first = first; last = Some last })

-- the window as times of this kind are counted
abbrev pub bounds_in : TimeKind → LogEnd → Option LogEnd → Result Bounds LogError
bounds_in k from until = first_in k from >>= λ first. until_in k until >>= λ last. bounds_of first last

abbrev pub settled_by : LogEnd → Option LogEnd → TimeKind → Result Times LogError
settled_by from until k = bounds_in k from until >>= λ bounds. Ok (record { kind = k; bounds = bounds })

-- what the times are, and the window by them: what was settled, or else what times of this kind settle
abbrev pub times_by : Option Times → LogEnd → Option LogEnd → TimeKind → Result Times LogError
times_by None from until k = settled_by from until k
times_by (Some times) from until k = Ok times

abbrev pub kind_of : Option Times → Option TimeKind
kind_of None = None
kind_of (Some times) = Some times.kind

-- whether a time isn't after the last one
abbrev pub is_before_end : Option ℤ → ℤ → Bool
is_before_end None time = true
is_before_end (Some last) time = not (int_lt last time)

-- whether a time is in a window
abbrev pub is_within : Bounds → ℤ → Bool
is_within bounds time = not (int_lt time bounds.first) && is_before_end bounds.last time
