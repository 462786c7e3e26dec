-- The summary of two parts that follow one another, from the summaries of both (own).
use Rattle.std.specs.Prelude.{ℕ, ◌+◌, List, [], ◌∷◌, ◌++◌, Option, Some, None, Bool, not}
use Rattle.std.specs.Prelude.{◌==◌, ◌&&◌, map, filter, find, nat_lt, if◌then◌else◌}
use Rattle.std.specs.List.{list_any}
use Rattle.step_trace.specs.declared.rows.Gap.{Gap}
use Rattle.chunk_join.specs.declared.joins.Why.{Why}
use Rattle.chunk_join.specs.declared.joins.Why.TheVariants.{NotAdjacent, OtherSet}
use Rattle.chunk_join.specs.declared.summaries.Place.{Place}
use Rattle.chunk_join.specs.declared.summaries.Fate.TheVariants.{Taken}
use Rattle.chunk_join.specs.declared.summaries.Message.{Message}
use Rattle.chunk_join.specs.declared.summaries.Take.{Take}
use Rattle.chunk_join.specs.Summaries.{Summary, last_of}

-- the right part's last Receive, or the left part's if the right has none
abbrev pub later_of : Option Place → Option Place → Option Place
later_of left None = left
later_of left (Some r) = Some r

-- this Receive, if it comes in a later tick than the Send
abbrev pub after : Place → Option Place → Option Place
after s None = None
after s (Some r) = if nat_lt s.tick r.tick then Some r else None

-- whether one step comes before another: in an earlier tick, or in the same tick with a smaller number
abbrev pub comes_before : Place → Place → Bool
comes_before a b = if a.tick == b.tick then nat_lt a.no b.no else nat_lt a.tick b.tick

-- the fate of a message of the left part, if the right part takes it like this or not at all
abbrev pub settled_by : List (Option Place) → Message → Option Take → Message
settled_by last m None = m
settled_by last m (Some t) =
    record { sent = m.sent; to = m.to; fate = Taken (after m.sent (later_of (last_of last t.by) t.before)) }

abbrev pub takes_of : Message → Take → Bool
takes_of m t = t.sent.no == m.sent.no && t.sent.tick == m.sent.tick

-- a message of the left part, whose last Receives are these, after what the right part takes
abbrev pub settle : List Take → List (Option Place) → Message → Message
settle taken last m = settled_by last m (find (takes_of m) taken)

-- a message after one take
abbrev pub settle_with : List (Option Place) → Take → Message → Message
settle_with last t m = if takes_of m t then settled_by last m (Some t) else m

-- whether the right part takes a message that was sent before the left part, too
abbrev pub is_older : ℕ → Take → Bool
is_older from t = nat_lt t.sent.tick from

-- a take of the right part, with the last Receive before it in either part
abbrev pub reach_take : List (Option Place) → Take → Take
reach_take last t = record { at = t.at; by = t.by; sent = t.sent; before = later_of (last_of last t.by) t.before }

abbrev pub later_each : List (Option Place) → List (Option Place) → List (Option Place)
later_each [] right = []
later_each (x ∷ left) [] = x ∷ left
later_each (x ∷ left) (y ∷ right) = later_of x y ∷ later_each left right

-- whether the first silence ends where the left part does, and the second goes on with it
abbrev pub meets : ℕ → Gap → Gap → Bool
meets seam w v = w.proc == v.proc && w.to == seam && v.from == seam + 1

-- whether a silence of the left part goes on in the right part
abbrev pub goes_on : ℕ → List Gap → Gap → Bool
goes_on seam right w = list_any (λ v. meets seam w v) right

abbrev pub stops : ℕ → List Gap → Gap → Bool
stops seam right w = not (goes_on seam right w)

abbrev pub from_seam : Gap → Option Gap → Gap
from_seam v None = v
from_seam v (Some w) = record { proc = v.proc; from = w.from; to = v.to }

-- a silence of the right part, from where it began in the left part
abbrev pub reach_back : ℕ → List Gap → Gap → Gap
reach_back seam left v = from_seam v (find (λ w. meets seam w v) left)

-- both as one
abbrev pub joined_parts : Summary → Summary → Summary
joined_parts l r = record {
  set = l.set;
  from = l.from;
  to = r.to;
  sent = map (settle r.taken l.last) l.sent ++ r.sent;
  taken = l.taken ++ map (reach_take l.last) (filter (is_older l.from) r.taken);
  last = later_each l.last r.last;
  silent = filter (stops l.to r.silent) l.silent ++ map (reach_back l.to l.silent) r.silent;
}

-- both made one so; if one is the empty part, the other one
abbrev pub joined_by : (Summary → Summary → Summary) → Option Summary → Option Summary → Option Summary
joined_by both None right = right
joined_by both (Some l) None = Some l
joined_by both (Some l) (Some r) = Some (both l r)

abbrev pub joined : Option Summary → Option Summary → Option Summary
joined = joined_by joined_parts

-- the first reason against joining them
abbrev pub parts_refusal : Summary → Summary → Option Why
parts_refusal l r =
    if not (l.to + 1 == r.from) then Some NotAdjacent
    else if l.set == r.set then None
    else Some OtherSet

abbrev pub refusal : Option Summary → Option Summary → Option Why
refusal None right = None
refusal (Some l) None = None
refusal (Some l) (Some r) = parts_refusal l r
