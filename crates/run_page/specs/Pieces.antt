-- What the pieces of a phrase are as HTML (own).
use Rattle.std.specs.Prelude.{ℕ, ◌==◌, ◌/◌, ◌%◌, ◌++◌, List, [], Option, Some}
use Rattle.std.specs.Prelude.{None, codes, decimal, if◌then◌else◌, is_none}
use Rattle.std.specs.List.{flat_map}
use Rattle.run_words.specs.Clocks.{amount_text, begin_text, from_text, time_of, time_point, time_text}
use Rattle.run_words.specs.Digits.{count_text, digits_text}
use Rattle.run_words.specs.Words.{label_text, message_text, node_text, step_text}
use Rattle.run_words.specs.declared.clocks.Clock.{Clock}
use Rattle.step_tables.specs.Records.{source_at}
use Rattle.step_tables.specs.Told.{Said}
use Rattle.run_page.specs.declared.pieces.Piece.{Piece}
use Rattle.run_page.specs.declared.pieces.Piece.TheVariants as piece
use Rattle.run_page.specs.declared.scales.Place.{Place}

-- so many of something
abbrev pub many_text : ℕ → List ℕ → List ℕ
many_text n what = count_text n ++ (codes " " ++ (what ++ (if n == 1 then [] else codes "s")))

abbrev pub plain_ticks : ℕ → List ℕ
plain_ticks n = many_text n (codes "tick")

-- so many ticks: as time, if a clock says how long they are, and as ticks
abbrev pub ticks_text : Option Clock → ℕ → List ℕ
ticks_text None n = plain_ticks n
ticks_text (Some c) n = amount_text (time_of c n) ++ (codes " (" ++ (plain_ticks n ++ codes ")"))

-- the same in bold, with the mark of a bound
abbrev pub bound_text : Option Clock → List ℕ → ℕ → List ℕ
bound_text None mark n = mark ++ (plain_ticks n ++ codes "</b>")
bound_text (Some c) mark n = mark ++ (amount_text (time_of c n) ++ (codes "</b> (" ++ (plain_ticks n ++ codes ")")))

-- so many ticks as time, or else as ticks
abbrev pub short_ticks_text : Option Clock → ℕ → List ℕ
short_ticks_text None n = plain_ticks n
short_ticks_text (Some c) n = amount_text (time_of c n)

-- a tick by its number; and after a space, in parentheses
abbrev pub tick_text : ℕ → List ℕ
tick_text t = codes "tick " ++ decimal t

abbrev pub tick_aside_text : ℕ → List ℕ
tick_aside_text t = codes " (" ++ (tick_text t ++ codes ")")

-- when a tick begins, or else the tick
abbrev pub begins_text : Option Clock → ℕ → List ℕ
begins_text None t = tick_text t
begins_text (Some c) t = begin_text c t

-- when a tick begins, and the tick
abbrev pub told_tick_text : Option Clock → ℕ → List ℕ
told_tick_text None t = tick_text t
told_tick_text (Some c) t = begin_text c t ++ tick_aside_text t

-- when something happens in a tick
abbrev pub in_tick_text : Option Clock → ℕ → List ℕ
in_tick_text None t = codes "in " ++ tick_text t
in_tick_text (Some c) t = codes "at " ++ (begin_text c t ++ tick_aside_text t)

-- from when on something holds
abbrev pub from_tick_text : Option Clock → ℕ → List ℕ
from_tick_text None t = tick_text t
from_tick_text (Some c) t = from_text c t ++ tick_aside_text t

-- step k after a space, in parentheses, with its record in the log, if it has one
abbrev pub aside_text : List Said → ℕ → List ℕ
aside_text said k = codes " (" ++ (step_text said k ++ codes ")")

-- the same, if it has a record
abbrev pub known_text : List Said → ℕ → List ℕ
known_text said k = if is_none (source_at said k) then [] else aside_text said k

-- a tick and step k after a space, in parentheses
abbrev pub both_aside_text : List Said → ℕ → ℕ → List ℕ
both_aside_text said t k = codes " (" ++ (tick_text t ++ (codes ", " ++ (step_text said k ++ codes ")")))

-- at which time step k was made, with its tick
abbrev pub step_at_text : List Said → Clock → ℕ → ℕ → List ℕ
step_at_text said c t k = codes "at " ++ (begin_text c t ++ both_aside_text said t k)

-- when step k was made, in tick t; without a clock only with its record, or else as a step
abbrev pub made_text : List Said → Option Clock → ℕ → ℕ → List ℕ
made_text said None t k = in_tick_text None t ++ known_text said k
made_text said (Some c) t k = step_at_text said c t k

abbrev pub stepped_text : List Said → Option Clock → ℕ → ℕ → List ℕ
stepped_text said None t k = in_tick_text None t ++ aside_text said k
stepped_text said (Some c) t k = step_at_text said c t k

-- a part of a width, in hundredths of a per cent
abbrev pub percent_text : ℕ → List ℕ
percent_text n = decimal (n / 100) ++ (codes "." ++ (digits_text (n % 100) ++ codes "%"))

-- a place in a picture: how far from its left edge
abbrev pub place_text : Place → List ℕ
place_text place = (if place.is_before then codes "-" else []) ++ decimal place.far

abbrev pub piece_text : List (List ℕ) → List Said → Option Clock → Piece → List ℕ
piece_text names said clock (piece.Text text) = text.now
piece_text names said clock (piece.Number n) = decimal n
piece_text names said clock (piece.TwoDigits n) = digits_text n
piece_text names said clock (piece.Count n) = count_text n
piece_text names said clock (piece.Many n what) = many_text n what.now
piece_text names said clock (piece.Ticks n) = ticks_text clock n
piece_text names said clock (piece.Late n) = bound_text clock (codes "<b class=\"dl\">") n
piece_text names said clock (piece.Silent n) = bound_text clock (codes "<b class=\"phi\">") n
piece_text names said clock (piece.Short n) = short_ticks_text clock n
piece_text names said clock (piece.Time n) = time_text n
piece_text names said clock (piece.Moment c time part) = time_point c time part
piece_text names said clock (piece.Begin t) = begins_text clock t
piece_text names said clock (piece.Tick t) = told_tick_text clock t
piece_text names said clock (piece.In t) = in_tick_text clock t
piece_text names said clock (piece.From t) = from_tick_text clock t
piece_text names said clock (piece.Made t k) = made_text said clock t k
piece_text names said clock (piece.Stepped t k) = stepped_text said clock t k
piece_text names said clock (piece.Node p) = node_text names p
piece_text names said clock (piece.Message s) = message_text said s
piece_text names said clock (piece.Step k) = step_text said k
piece_text names said clock (piece.Label p) = label_text names p
piece_text names said clock (piece.Percent n) = percent_text n
piece_text names said clock (piece.At place) = place_text place

-- one after the other
abbrev pub pieces_text : List (List ℕ) → List Said → Option Clock → List Piece → List ℕ
pieces_text names said clock pieces = flat_map (piece_text names said clock) pieces
