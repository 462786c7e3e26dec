-- The summary of a part of a trace, for a set of processors that count as correct (own). The part from cut i to cut j
-- has the ticks x with i < x ≤ j. The summaries of adjacent parts are enough to find the summary of the part that they
-- make up together.
use Rattle.std.specs.Prelude.{ℕ, ◌≡◌, ◌+◌, ◌-◌, ◌<◌, ◌≤◌, ◌⊎◌, List, [], ◌∷◌, Option, Some}
use Rattle.std.specs.Prelude.{None, Contains, length, slice_index_or, IsTrue, false}
use Rattle.step_trace.specs.declared.processors.TheConstants.{MAX_MEMBER}
use Rattle.step_trace.specs.declared.traces.TheConstants.{MAX_TICKS}
use Rattle.step_trace.specs.declared.rows.Gap.{Gap}
use Rattle.step_trace.specs.Processors.{has_proc}
use Rattle.step_trace.specs.Traces.{Recorded, TakesAt, IsReceiveOf}
use Rattle.step_trace.specs.Ticks.{tick_of, StepsIn, IsTrace}
use Rattle.step_trace.specs.Bounds.{IsMessage}
use Rattle.step_trace.specs.Witnesses.{IsGap}
use Rattle.chunk_join.specs.declared.summaries.Place.{Place}
use Rattle.chunk_join.specs.declared.summaries.Fate.{Fate}
use Rattle.chunk_join.specs.declared.summaries.Fate.TheVariants.{Open, Taken}
use Rattle.chunk_join.specs.declared.summaries.Message.{Message}
use Rattle.chunk_join.specs.declared.summaries.Take.{Take}

-- a step's number is paired with its tick
abbrev pub IsPlace : Recorded → Place → Type 0
IsPlace trace p = tick_of trace p.no ≡ p.tick

-- the last Receive of q in a tick strictly between two moments
pub record IsLatestReceive (trace : Recorded) (q low high : ℕ) (r : Place) : Type 0 where
  pub receive : IsReceiveOf trace.steps r.no q
  pub place : IsPlace trace r
  pub after : low < r.tick
  pub until : r.tick < high
  pub latest : (y : ℕ) → IsReceiveOf trace.steps y q → tick_of trace y < high → tick_of trace y ≤ r.tick

-- that Receive, or none if there is none
abbrev pub IsLastReceive : Recorded → ℕ → ℕ → ℕ → Option Place → Type 0
IsLastReceive trace q low high None = (y : ℕ) → IsReceiveOf trace.steps y q → low < tick_of trace y
    → tick_of trace y < high → ⊥
IsLastReceive trace q low high (Some r) = IsLatestReceive trace q low high r

-- Up to tick j message s to q is open if no Receive up to j takes it. If a Receive x takes it, the last miss is
-- the last Receive of q after the Send and before x.
abbrev pub IsFate : Recorded → Place → ℕ → ℕ → Fate → Type 0
IsFate trace s q j Open = (x : ℕ) → TakesAt trace.steps x s.no → j < tick_of trace x
IsFate trace s q j (Taken missed) = (x : ℕ) × TakesAt trace.steps x s.no × (tick_of trace x ≤ j)
    × IsLastReceive trace q s.tick (tick_of trace x) missed

-- a message between members that is sent in the part, and its fate up to the part's end
pub record IsSent (set : ℕ) (trace : Recorded) (i j : ℕ) (m : Message) : Type 0 where
  pub message : IsMessage set trace.steps m.sent.no m.to
  pub place : IsPlace trace m.sent
  pub after : i < m.sent.tick
  pub until : m.sent.tick ≤ j
  pub fate : IsFate trace m.sent m.to j m.fate

-- a message of any time and sender that a member takes after cut i, with the last Receive of that member before, if
-- that is after cut i
pub record IsAnyTake (set : ℕ) (trace : Recorded) (i : ℕ) (t : Take) : Type 0 where
  pub member : IsTrue (has_proc set t.by)
  pub receive : IsReceiveOf trace.steps t.at.no t.by
  pub takes : TakesAt trace.steps t.at.no t.sent.no
  pub at_place : IsPlace trace t.at
  pub sent_place : IsPlace trace t.sent
  pub after : i < t.at.tick
  pub before : IsLastReceive trace t.by i t.at.tick t.before

-- one that was sent before the part, and is taken in it
pub record IsTake (set : ℕ) (trace : Recorded) (i j : ℕ) (t : Take) : Type 0 where
  pub own : IsAnyTake set trace i t
  pub until : t.at.tick ≤ j
  pub earlier : t.sent.tick ≤ i

-- a member is silent from tick `from` to tick `to` of the part, and in the part no longer
pub record IsLongest (set : ℕ) (trace : Recorded) (i j : ℕ) (w : Gap) : Type 0 where
  pub gap : IsGap set trace w
  pub after : i < w.from
  pub until : w.to ≤ j
  pub left : (w.from ≡ i + 1) ⊎ StepsIn trace (w.from - 1) w.proc
  pub right : (w.to ≡ j) ⊎ StepsIn trace (w.to + 1) w.proc

-- each comes before all that follow it
abbrev pub Rises : {X : Type 0} → (X → X → Type 0) → List X → Type 0
Rises Before [] = Unit {0}
Rises {X} Before (x ∷ xs) = ((y : X) → Contains xs y → Before x y) × Rises Before xs

-- the list has each x that is meant, and no other, in this order
pub record IsListing {X : Type 0} (Before : X → X → Type 0) (Is : X → Type 0) (list : List X) : Type 0 where
  pub rising : Rises Before list
  pub sound : (x : X) → Contains list x → Is x
  pub complete : (x : X) → Is x → Contains list x

-- messages in the order of their Sends
abbrev pub SentBefore : Message → Message → Type 0
SentBefore a b = (a.sent.tick < b.sent.tick) ⊎ ((a.sent.tick ≡ b.sent.tick) × (a.sent.no < b.sent.no))

-- takes in the order of their Receives, and of one Receive by ids
abbrev pub TakenBefore : Take → Take → Type 0
TakenBefore a b = (a.at.no < b.at.no) ⊎ ((a.at.no ≡ b.at.no) × (a.sent.no < b.sent.no))

-- silences in the order of their ends, at one end by falling processors
abbrev pub EndsBefore : Gap → Gap → Type 0
EndsBefore a b = (a.to < b.to) ⊎ ((a.to ≡ b.to) × (b.proc < a.proc))

-- a summary: of which set and which ticks, and the four lists
pub record Summary : Type 0 where
  pub set : ℕ
  pub from : ℕ
  pub to : ℕ
  pub sent : List Message
  pub taken : List Take
  pub last : List (Option Place)
  pub silent : List Gap

-- what the list has for this processor
abbrev pub last_of : List (Option Place) → ℕ → Option Place
last_of last p = slice_index_or last p None

-- the last Receive in the part of each member; others have none
pub record AreLastReceives (set : ℕ) (trace : Recorded) (i j : ℕ) (last : List (Option Place)) : Type 0 where
  pub long : length last ≡ MAX_MEMBER + 1
  pub members : (p : ℕ) → IsTrue (has_proc set p) → IsLastReceive trace p i (j + 1) (last_of last p)
  pub others : (p : ℕ) → has_proc set p ≡ false → last_of last p ≡ None

-- this is the summary of the part from cut i to cut j
pub record IsSummary (set : ℕ) (trace : Recorded) (i j : ℕ) (s : Summary) : Type 0 where
  pub members : s.set ≡ set
  pub from : s.from ≡ i + 1
  pub to : s.to ≡ j
  pub sent : IsListing SentBefore (IsSent set trace i j) s.sent
  pub taken : IsListing TakenBefore (IsTake set trace i j) s.taken
  pub last : AreLastReceives set trace i j s.last
  pub silent : IsListing EndsBefore (IsLongest set trace i j) s.silent

-- what holds of the lists of every summary
pub record IsConsistent (s : Summary) : Type 0 where
  pub start : 1 ≤ s.from
  pub order : s.from ≤ s.to
  pub end : s.to ≤ MAX_TICKS
  pub long : length s.last ≡ MAX_MEMBER + 1
  pub sent_rising : Rises SentBefore s.sent
  pub sent_inside : (m : Message) → Contains s.sent m → (s.from ≤ m.sent.tick) × (m.sent.tick ≤ s.to)
  pub silent_rising : Rises EndsBefore s.silent
  pub silent_inside : (w : Gap) → Contains s.silent w → (s.from ≤ w.to) × (w.to ≤ s.to)

-- a trace, and the processors that count as correct
pub record Whole : Type 0 where
  pub set : ℕ
  pub trace : Recorded
  pub sound : IsTrace trace

-- the part of a trace from cut i to cut j: its value, or none if the cuts are one
abbrev pub IsPartBy : (ℕ → Recorded → ℕ → ℕ → Summary → Type 0) → Whole → ℕ → ℕ → Option Summary → Type 0
IsPartBy Is whole i j None = i ≡ j
IsPartBy Is whole i j (Some s) = (i < j) × (j ≤ whole.trace.last) × Is whole.set whole.trace i j s

-- the part, by its summary
abbrev pub IsPiece : Whole → ℕ → ℕ → Option Summary → Type 0
IsPiece = IsPartBy IsSummary
