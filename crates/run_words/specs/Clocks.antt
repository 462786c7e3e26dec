-- Ticks as time: amounts, and points of time (own).
use Rattle.std.specs.Prelude.{ℕ, ◌==◌, ◌+◌, ◌-◌, ◌*◌, ◌/◌, ◌%◌, ◌++◌, ◌&&◌, List, [], ◌∷◌, Option, Some}
use Rattle.std.specs.Prelude.{None, codes, decimal, drop, if◌then◌else◌, nat_le, nat_lt, min, max}
use Rattle.run_words.specs.Digits.{count_text, digits_text}
use Rattle.run_words.specs.declared.clocks.TheConstants.{LONGEST}
use Rattle.run_words.specs.declared.clocks.Clock.{Clock}
use Rattle.run_words.specs.declared.clocks.Unit.{Unit}
use Rattle.run_words.specs.declared.clocks.Unit.TheVariants as unit

-- how many nanoseconds a unit has
abbrev pub nanoseconds_in : Unit → ℕ
nanoseconds_in unit.Second = 1000000000
nanoseconds_in unit.Millisecond = 1000000
nanoseconds_in unit.Microsecond = 1000
nanoseconds_in unit.Nanosecond = 1

-- a narrow space, and what a unit is called
abbrev pub unit_name : Unit → List ℕ
unit_name unit.Second = codes "s"
unit_name unit.Millisecond = codes "ms"
unit_name unit.Microsecond = 194 ∷ 181 ∷ 115 ∷ []
unit_name unit.Nanosecond = codes "ns"

abbrev pub unit_text : Unit → List ℕ
unit_text u = (226 ∷ 128 ∷ 175 ∷ []) ++ unit_name u

-- the greatest unit of which a time of so many nanoseconds has at least one, to three digits
abbrev pub unit_of : ℕ → Unit
unit_of n = if nat_lt n 1000 then unit.Nanosecond else if nat_lt n 999500 then unit.Microsecond else if nat_lt n
    999500000 then unit.Millisecond else unit.Second

-- the powers of ten up to 10 ^ 18, the greatest first
abbrev pub powers_of_ten : List ℕ
powers_of_ten = 1000000000000000000 ∷ 100000000000000000 ∷ 10000000000000000 ∷ 1000000000000000 ∷ 100000000000000
    ∷ 10000000000000 ∷ 1000000000000 ∷ 100000000000
    ∷ 10000000000 ∷ 1000000000 ∷ 100000000 ∷ 10000000 ∷ 1000000 ∷ 100000 ∷ 10000 ∷ 1000 ∷ 100 ∷ 10 ∷ 1 ∷ []

-- the first of these that isn't above a number; 1 if all are
abbrev pub first_within : List ℕ → ℕ → ℕ
first_within [] n = 1
first_within (power ∷ rest) n = if nat_le power n then power else first_within rest n

-- the greatest power of ten that isn't above a number
unfoldable pub power_within : ℕ → ℕ
power_within n = first_within powers_of_ten n

-- To how many nanoseconds points of time are rounded in a run of so many with ticks of so many: to
-- a tenth of a tick, but no finer than a ten thousandth of the run, and no coarser than a unit.
abbrev pub fine_of : ℕ → ℕ → Unit → ℕ
fine_of width length u = max 1 (min (max (power_within width / 10) (power_within length / 10000)) (nanoseconds_in u))

-- the same where the whole run is looked at: a 500th of it
abbrev pub coarse_of : ℕ → ℕ → Unit → ℕ
coarse_of width length u = max (fine_of width length u) (min (power_within (length / 500)) (nanoseconds_in u))

-- the clock of a run of so many nanoseconds with ticks of so many
abbrev pub clock_for : ℕ → ℕ → Clock
clock_for width length =
    record {
      width = width;
      unit = unit_of length;
      fine = fine_of width length (unit_of length);
      coarse = coarse_of width length (unit_of length);
    }

-- the clock of a run of so many ticks of so many nanoseconds, unless that is nothing, or longer than is told
abbrev pub clock_of : ℕ → ℕ → Option Clock
clock_of width ticks = if nat_lt 0 (width * ticks) && nat_le (width * ticks) LONGEST then Some
    (clock_for width (width * ticks)) else None

-- so many tenths, and so many hundredths, without zeros at the end
abbrev pub tenths_text : ℕ → List ℕ
tenths_text n = decimal (n / 10) ++ (if n % 10 == 0 then [] else codes "." ++ decimal (n % 10))

abbrev pub hundredths_text : ℕ → List ℕ
hundredths_text n = if n % 10 == 0 then tenths_text (n / 10) else decimal (n / 100)
    ++ (codes "." ++ digits_text (n % 100))

-- how often a time has a unit, in three digits, or all if there are more before the point; half of
-- the last one is rounded up
abbrev pub three_text : ℕ → ℕ → List ℕ
three_text n u =
    if nat_lt n (u / 1000 * 9995) then hundredths_text ((n * 100 + u / 2) / u)
    else if nat_lt n (u / 100 * 9995) then tenths_text ((n * 10 + u / 2) / u)
    else count_text ((n + u / 2) / u)

-- a time of so many nanoseconds
abbrev pub amount_text : ℕ → List ℕ
amount_text n = three_text n (nanoseconds_in (unit_of n)) ++ unit_text (unit_of n)

-- the same of any time, of which no more is told than LONGEST
abbrev pub time_text : ℕ → List ℕ
time_text n = amount_text (min n LONGEST)

-- how long so many ticks are, in nanoseconds
abbrev pub time_of : Clock → ℕ → ℕ
time_of c ticks = min (ticks * c.width) LONGEST

-- a point, and so many of the parts that there are, which are a power of ten
abbrev pub fraction_text : ℕ → ℕ → List ℕ
fraction_text parts n = codes "." ++ drop 1 (decimal (parts + n))

-- so many parts of a unit, of this many nanoseconds each
abbrev pub parts_text : Unit → ℕ → ℕ → List ℕ
parts_text u parts n = decimal (n / parts)
    ++ ((if nat_lt 1 parts && nat_lt 0 n then fraction_text parts (n % parts) else []) ++ unit_text u)

abbrev pub point_text : Unit → ℕ → ℕ → List ℕ
point_text u part n = parts_text u (max (nanoseconds_in u / part) 1) n

-- a part of a unit that isn't out of bounds
abbrev pub limited : ℕ → ℕ
limited part = max 1 (min part LONGEST)

-- when a tick begins, counted from when tick 1 begins: rounded
abbrev pub begin_text : Clock → ℕ → List ℕ
begin_text c tick = point_text c.unit (limited c.fine) ((time_of c (tick - 1) + limited c.fine / 2) / limited c.fine)

-- a point of time in parts of so many nanoseconds, of at most a unit
abbrev pub part_within : Clock → ℕ → ℕ
part_within c part = max 1 (min part (nanoseconds_in c.unit))

abbrev pub time_point : Clock → ℕ → ℕ → List ℕ
time_point c time part = point_text c.unit (part_within c part) (time / part_within c part)

-- when a tick begins rounded up, as for a look at the whole run
abbrev pub from_text : Clock → ℕ → List ℕ
from_text c tick = point_text c.unit (limited c.coarse)
    ((time_of c (tick - 1) + (limited c.coarse - 1)) / limited c.coarse)
