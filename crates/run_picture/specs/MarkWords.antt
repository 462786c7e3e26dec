-- How marks name steps, messages and bounds, with their times (own).
use Rattle.std.specs.Prelude.{ℕ, ◌-◌, ◌==◌, ◌++◌, List, [], Option, Some, None, codes}
use Rattle.std.specs.Prelude.{decimal, if◌then◌else◌, length, nat_lt, take}
use Rattle.std.specs.List.{flat_map}
use Rattle.step_tables.specs.Told.{Said}
use Rattle.run_words.specs.Clocks.{amount_text, begin_text, time_of}
use Rattle.run_words.specs.Words.{message_text, step_text}
use Rattle.run_words.specs.declared.clocks.Clock.{Clock}
use Rattle.run_picture.specs.declared.mark_words.TheConstants.{NAMED_IDS}

-- when tick t begins, if a clock tells it
abbrev pub time_text : Option Clock → ℕ → List ℕ
time_text None t = []
time_text (Some c) t = codes ", " ++ begin_text c t

-- tick t, with its time
abbrev pub timed_text : Option Clock → ℕ → List ℕ
timed_text clock t = codes "tick " ++ (decimal t ++ time_text clock t)

-- step k, with its tick t
abbrev pub made_text : List Said → Option Clock → ℕ → ℕ → List ℕ
made_text said clock k t = step_text said k ++ (codes ", " ++ timed_text clock t)

-- step k with the time of its tick t
abbrev pub step_at_text : List Said → Option Clock → ℕ → ℕ → List ℕ
step_at_text said clock k t = step_text said k ++ time_text clock t

-- a bound of so many ticks, and how long that is, if a clock tells it
abbrev pub bound_text : Option Clock → ℕ → List ℕ
bound_text None n = decimal n
bound_text (Some c) n = decimal n ++ (codes " (" ++ (amount_text (time_of c n) ++ codes ")"))

-- the messages with these ids: the first ones, and how many more there are
abbrev pub kind_text : ℕ → List ℕ
kind_text count = if count == 1 then codes "message" else codes "messages"

abbrev pub more_text : ℕ → List ℕ
more_text more = if nat_lt 0 more then codes " and " ++ (decimal more ++ codes " more") else []

abbrev pub named_text : List Said → List ℕ → List ℕ
named_text said ids = flat_map (λ s. codes " " ++ message_text said s) ids

abbrev pub ids_text : List Said → List ℕ → List ℕ
ids_text said ids =
    if length ids == 0 then codes "nothing"
    else kind_text (length ids) ++ (named_text said (take NAMED_IDS ids) ++ more_text (length ids - NAMED_IDS))
