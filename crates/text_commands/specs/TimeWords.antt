-- So long a time in words, by the unit of a log's times.
use Rattle.std.specs.Prelude.{ℕ, ◌/◌, ◌%◌, Bool, true, false, List, ◌++◌, ◌==◌, if◌then◌else◌, codes, decimal}
use Rattle.std.specs.Prelude.{Option, Some, None}
use Rattle.event_log.specs.declared.options.Options.{Options}
use Rattle.event_log.specs.declared.times.TimeUnit.{TimeUnit}
use Rattle.event_log.specs.declared.times.Width.{Width}
use Rattle.event_log.specs.declared.times.Width.TheVariants.{Nanoseconds, Units}

-- so many nanoseconds, in the greatest unit of which they are a whole number
unfoldable pub scaled_words : ℕ → List ℕ
scaled_words n =
    if n % 1000000000 == 0 then decimal (n / 1000000000) ++ codes "s"
    else if n % 1000000 == 0 then decimal (n / 1000000) ++ codes "ms"
    else if n % 1000 == 0 then decimal (n / 1000) ++ codes "us"
    else decimal n ++ codes "ns"

-- whether a length of a tick and a unit say that times are counted in nanoseconds
abbrev pub say_nanoseconds : Width → Option TimeUnit → Bool
say_nanoseconds (Nanoseconds n) unit = true
say_nanoseconds (Units n) (Some unit) = true
say_nanoseconds (Units n) None = false

-- whether the options of a log say it
abbrev pub are_nanoseconds : Options → Bool
are_nanoseconds o = say_nanoseconds o.width o.unit

-- so long a time: with its unit if times are counted in nanoseconds, and else the number alone
abbrev pub time_words : Bool → ℕ → List ℕ
time_words true time = scaled_words time
time_words false time = decimal time
