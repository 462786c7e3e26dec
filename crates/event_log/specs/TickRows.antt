-- How many ticks the trace of events has, and how far they move, by the length of a tick.
use Rattle.std.specs.Prelude.{ℕ, ◌≡◌, ◌+◌, ◌-◌, ◌*◌, ◌/◌, ◌%◌, ◌^◌, ◌<◌, ℤ, Bool, true, ◌||◌, ◌==◌, if◌then◌else◌, List}
use Rattle.std.specs.Prelude.{length, map, Option, Some, None, nat_le, nat_lt, slice_index, slice_index_or, unwrap_or}
use Rattle.std.proofs.Common.{◌-ℤ◌}
use Rattle.std.specs.Int.RustNames.{unsigned_abs}
use Rattle.std.specs.List.{filter, range_with_len}
use Rattle.step_trace.specs.Traces.{Recorded}
use Rattle.timed_events.specs.declared.events.Clock.{Clock}
use Rattle.timed_events.specs.declared.events.Event.{Event}
use Rattle.timed_events.specs.declared.events.EventError.{EventError}
use Rattle.timed_events.specs.declared.events.EventError.TheVariants.{TooManyTicks}
use Rattle.timed_events.specs.declared.spread_traces.Moved.{Moved}
use Rattle.timed_events.specs.Spreads.{AreStepPlaces, IsTimed, IsTimedRefusal}
use Rattle.timed_events.specs.Times.{greatest_time, least_time, time_ticks}
use Rattle.event_log.specs.declared.tick_rows.Placing.{Placing}
use Rattle.event_log.specs.declared.tick_rows.TheConstants.{WIDTHS}
use Rattle.event_log.specs.declared.tick_rows.TickRow.{TickRow}
use Rattle.event_log.specs.declared.times.TimeKind.{TimeKind}
use Rattle.event_log.specs.declared.times.TimeKind.TheVariants as kind
use Rattle.event_log.specs.TickClocks.{units_in}

-- 1, 2 and 5 times the powers of ten, in rising order, counted from 0
abbrev pub leading_digit : ℕ → ℕ
leading_digit k = if k % 3 == 0 then 1 else if k % 3 == 1 then 2 else 5

unfoldable pub tick_width : ℕ → ℕ
tick_width k = leading_digit k * 10 ^ (k / 3)

-- a clock whose ticks have so many units of times of this kind
abbrev pub clock_of : TimeKind → Option ℤ → ℕ → Clock
clock_of kind until width = record { width = units_in kind width; until = until }

-- how many nanoseconds a length of a tick has, unless times are whole numbers of no unit
abbrev pub tick_nanoseconds : TimeKind → ℕ → Option ℕ
tick_nanoseconds kind.Number width = None
tick_nanoseconds k width = Some (units_in k width)

-- how long a log is, as its times are counted: from the least time of its events to its end
abbrev pub log_length : List Event → Option ℤ → ℕ
log_length events until = unsigned_abs (unwrap_or until (greatest_time events) -ℤ least_time events)

-- whether there is a row for the length at a place: the one before it isn't longer than the log
abbrev pub is_told : TimeKind → ℕ → ℕ → Bool
is_told kind log k = k == 0 || nat_le (units_in kind (tick_width (k - 1))) log

-- the lengths of which there are rows, of the first so many
unfoldable pub told_before : TimeKind → ℕ → ℕ → List ℕ
told_before kind log count = map tick_width (filter (is_told kind log) (range_with_len 0 count))

abbrev pub told_widths : TimeKind → ℕ → List ℕ
told_widths kind log = told_before kind log WIDTHS

-- whether the event of a step is more than one tick later than that of its time: by the ticks of
-- the times of all events, the ticks of the steps, and the places of their events
abbrev pub is_far : List ℕ → List ℕ → List ℕ → ℕ → Bool
is_far own ticks places k = nat_lt (slice_index_or own (slice_index places k) 0 + 1) (slice_index ticks k)

-- how many of the first steps these are
abbrev pub far_before : List ℕ → List ℕ → List ℕ → ℕ → ℕ
far_before own ticks places count = length (filter (is_far own ticks places) (range_with_len 0 count))

abbrev pub far_count : List ℕ → List ℕ → List ℕ → ℕ
far_count own ticks places = far_before own ticks places (length places)

-- The numbers are those of this trace of events and of how they moved; these are the places of the events of its steps.
pub record AreNumbersOf (events : List Event) (clock : Clock) (trace : Recorded) (moved : Moved) (places : List ℕ)
    (p : Placing) : Type 0 where
  pub last : p.last ≡ trace.last
  pub so_many : p.events ≡ length events
  pub moved_are : p.moved ≡ moved.events
  pub most : p.most ≡ moved.ticks
  pub far : p.far ≡ far_count (time_ticks events clock) trace.ticks places

-- the numbers are those of the trace of the events, if these may be spread
pub record IsPlacingOf (n : ℕ) (events : List Event) (clock : Clock) (p : Placing) : Type 0 where
  pub trace : Recorded
  pub moved : Moved
  pub timed : IsTimed true n events clock (record { trace = trace; moved = moved })
  pub places : List ℕ
  pub placed : AreStepPlaces true events clock places
  pub numbers : AreNumbersOf events clock trace moved places p

-- the same; or there is no such trace, since it would have too many ticks
abbrev pub IsPlacedBy : ℕ → List Event → Clock → Option Placing → Type 0
IsPlacedBy n events clock None = IsTimedRefusal true events clock TooManyTicks
IsPlacedBy n events clock (Some p) = IsPlacingOf n events clock p

-- the row of a length of a tick
abbrev pub IsRowOf : ℕ → List Event → TimeKind → Option ℤ → TickRow → Type 0
IsRowOf n events kind until row = (0 < row.width) × IsPlacedBy n events (clock_of kind until row.width) row.placing

-- why the events make no trace with ticks of some length; or out of memory
abbrev pub IsRowRefusal : List Event → TimeKind → Option ℤ → EventError → Type 0
IsRowRefusal events kind until why = (width : ℕ) × (0 < width)
    × IsTimedRefusal true events (clock_of kind until width) why
