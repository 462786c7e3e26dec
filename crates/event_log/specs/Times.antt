-- The times of a log, the length of a tick, and the end of a log.
use Rattle.std.specs.Prelude.{◌≡◌, ℕ, ◌+◌, ◌-◌, ◌*◌, ◌<◌, ◌⊎◌, ◌++◌, ◌∷◌, [], ℤ, pos, List, Option, Some, None, Result}
use Rattle.std.specs.Prelude.{Ok, Err, ◌&&◌, ◌==◌, codes, drop, length, nat_le, option_map, position, slice_index_or}
use Rattle.std.specs.Prelude.{take, if◌then◌else◌}
use Rattle.std.specs.Char.{is_ascii_digit}
use Rattle.std.specs.List.{list_all}
use Rattle.std.specs.Option.{option_and_then, option_or}
use Rattle.std.specs.Str.{bytes_eq}
use Rattle.jiff.specs.Words.{parse_timestamp, parse_duration}
use Rattle.jiff_core.specs.Timestamp.{IsDurationNanos}
use Rattle.jiff_core.specs.declared.error.Error.{Error}
use Rattle.trace_text.specs.Records.{number_of}
use Rattle.trace_text.specs.Names.{text_of}
use Rattle.event_log.specs.declared.times.LogEnd.{LogEnd}
use Rattle.event_log.specs.declared.times.LogEnd.TheVariants as end
use Rattle.event_log.specs.declared.times.TheConstants.{MAX_LOCAL_BYTES}
use Rattle.event_log.specs.declared.times.TimeKind.{TimeKind}
use Rattle.event_log.specs.declared.times.TimeKind.TheVariants as kind
use Rattle.event_log.specs.declared.times.TimeUnit.{TimeUnit}
use Rattle.event_log.specs.declared.times.TimeUnit.TheVariants as unit
use Rattle.event_log.specs.declared.times.Moment.{Moment}
use Rattle.event_log.specs.declared.times.Width.{Width}
use Rattle.event_log.specs.declared.times.Width.TheVariants as width

-- the value of a result, or nothing
abbrev pub value_of : {A : Type 0} → Result A Error → Option A
value_of (Ok x) = Some x
value_of (Err e) = None

-- the nanosecond of a time stamp
abbrev pub stamp_of : List ℕ → Option ℤ
stamp_of field = option_and_then (λ text. value_of (parse_timestamp text)) (text_of field)

-- the nanosecond of a time stamp without an offset, in UTC: of a field that is no time stamp, and is one with a Z after
-- it
abbrev pub stamp_unless : Option ℤ → List ℕ → Option ℤ
stamp_unless (Some time) field = None
stamp_unless None field = if nat_le (length field) MAX_LOCAL_BYTES then stamp_of (field ++ 90 ∷ []) else None

unfoldable pub local_of : List ℕ → Option ℤ
local_of field = stamp_unless (stamp_of field) field

-- the unit that a text names
abbrev pub unit_of : List ℕ → Option TimeUnit
unit_of text =
    if bytes_eq text (codes "s") then Some unit.Second
    else if bytes_eq text (codes "ms") then Some unit.Millisecond
    else if bytes_eq text (codes "us") then Some unit.Microsecond
    else if bytes_eq text (codes "ns") then Some unit.Nanosecond
    else None

-- how many nanoseconds a unit has
abbrev pub nanoseconds_in : TimeUnit → ℕ
nanoseconds_in unit.Second = 1000000000
nanoseconds_in unit.Millisecond = 1000000
nanoseconds_in unit.Microsecond = 1000
nanoseconds_in unit.Nanosecond = 1

-- the nanosecond of a whole number of a unit
abbrev pub whole_of : TimeUnit → List ℕ → Option ℕ
whole_of unit field = option_map (λ n. n * nanoseconds_in unit) (number_of field)

-- the digit at a place; 0 behind the last
abbrev pub digit_at : List ℕ → ℕ → ℕ
digit_at digits k = slice_index_or digits k 48 - 48

-- the number that three digits from a place on write
abbrev pub three_from : List ℕ → ℕ → ℕ
three_from digits k = 100 * digit_at digits k + 10 * digit_at digits (k + 1) + digit_at digits (k + 2)

-- the nanoseconds that one to nine digits behind a point are worth
unfoldable pub fraction_of : List ℕ → Option ℕ
fraction_of digits =
    if nat_le 1 (length digits) && nat_le (length digits) 9 && list_all is_ascii_digit digits
    then Some (1000000 * three_from digits 0 + 1000 * three_from digits 3 + three_from digits 6)
    else None

-- the nanosecond of decimal seconds: a number, a point, and one to nine digits
abbrev pub seconds_by : Option ℕ → List ℕ → Option ℕ
seconds_by None field = None
seconds_by (Some at) field =
    option_and_then (λ n. option_map (λ f. n * 1000000000 + f) (fraction_of (drop (at + 1) field)))
    (number_of (take at field))

unfoldable pub decimal_of : List ℕ → Option ℕ
decimal_of field = seconds_by (position (λ byte. byte == 46) field) field

-- the value of a time of this kind; whole numbers among decimal seconds are whole seconds
abbrev pub time_as : TimeKind → List ℕ → Option ℤ
time_as kind.Number field = option_map pos (number_of field)
time_as (kind.Whole unit) field = option_map pos (whole_of unit field)
time_as kind.Decimal field = option_map pos (option_or (whole_of unit.Second field) (decimal_of field))
time_as kind.Stamp field = stamp_of field
time_as kind.Local field = local_of field

-- the time of this kind that a field gives
abbrev pub moment_in : TimeKind → List ℕ → Option Moment
moment_in k field = option_map (λ time. record { kind = k; time = time }) (time_as k field)

-- the kind by which a time is read: that of the whole numbers of a unit, if one is given; else that of record 2, if it
-- is known
abbrev pub settled : Option TimeUnit → Option TimeKind → Option TimeKind
settled None k = k
settled (Some unit) k = Some (kind.Whole unit)

-- the time that a field gives: a number, else decimal seconds, else a time stamp, else one without an offset
abbrev pub moment_of : List ℕ → Option Moment
moment_of field =
    option_or (moment_in kind.Number field)
    (option_or (moment_in kind.Decimal field) (option_or (moment_in kind.Stamp field) (moment_in kind.Local field)))

-- a text is a duration of so many nanoseconds
abbrev pub IsDuration : List ℕ → ℤ → Type 0
IsDuration text x = IsDurationNanos x × (parse_duration text ≡ Ok x)

-- how many nanoseconds a length of a tick has that is a duration; 0 of one in the unit of the times
abbrev pub nanoseconds_of : Width → ℕ
nanoseconds_of (width.Units n) = 0
nanoseconds_of (width.Nanoseconds n) = n

-- a text gives this length of a tick: a number above 0, or else a duration above 0
abbrev pub IsWidth : List ℕ → Width → Type 0
IsWidth text (width.Units n) = (0 < n) × (number_of text ≡ Some n)
IsWidth text (width.Nanoseconds n) = (0 < n) × (number_of text ≡ None) × IsDuration text (pos n)

-- the end of a log that a text gives: a number, else decimal seconds, else a time stamp, else one without an offset
abbrev pub time_of_end : List ℕ → Option LogEnd
time_of_end text =
    option_or (option_map end.Number (number_of text))
    (option_or (option_map (λ n. end.Nanoseconds (pos n)) (decimal_of text))
    (option_or (option_map end.Stamp (stamp_of text)) (option_map end.Local (local_of text))))

-- a duration is the time that comes so long after zero
abbrev pub IsDurationEnd : List ℕ → LogEnd → Type 0
IsDurationEnd text (end.Nanoseconds x) = IsDuration text x
IsDurationEnd text _ = ⊥

-- a text gives this end of a log: a time, or else a duration
abbrev pub IsEnd : List ℕ → LogEnd → Type 0
IsEnd text e = (time_of_end text ≡ Some e) ⊎ ((time_of_end text ≡ None) × IsDurationEnd text e)
