-- What passes over the steps of a block of ticks have found so far (own). The block begins after cut i; a pass by
-- rising numbers has scanned the steps up to number k.
use Rattle.std.specs.Prelude.{ℕ, ◌≡◌, ◌+◌, ◌-◌, ◌<◌, ◌≤◌, ◌⊎◌, List, Option, Some, None, Contains, length}
use Rattle.std.specs.Prelude.{slice_index_or, IsTrue, false, Bool, find, map, ◌==◌, if◌then◌else◌}
use Rattle.step_trace.specs.declared.processors.TheConstants.{MAX_MEMBER}
use Rattle.step_trace.specs.declared.rows.Gap.{Gap}
use Rattle.step_trace.specs.declared.steps.Step.{Step}
use Rattle.step_trace.specs.Processors.{has_proc}
use Rattle.step_trace.specs.Traces.{Recorded, IsReceiveOf, IsStepOf}
use Rattle.step_trace.specs.Ticks.{tick_of, StepsIn}
use Rattle.step_trace.specs.Bounds.{IsMessage}
use Rattle.step_trace.specs.Witnesses.{IsGap}
use Rattle.chunk_join.specs.declared.summaries.Place.{Place}
use Rattle.chunk_join.specs.declared.summaries.Fate.TheVariants.{Open, Taken}
use Rattle.chunk_join.specs.declared.summaries.Fate.{Fate}
use Rattle.chunk_join.specs.declared.summaries.Message.{Message}
use Rattle.chunk_join.specs.declared.summaries.Take.{Take}
use Rattle.chunk_join.specs.Summaries.{IsPlace, IsAnyTake, IsLongest, IsListing, SentBefore}
use Rattle.chunk_join.specs.Summaries.{TakenBefore, EndsBefore, last_of}
use Rattle.chunk_join.specs.Parts.{after}

-- a message between members that is sent after cut i by a step up to k, without its fate
pub record IsOpenBy (set : ℕ) (trace : Recorded) (i k : ℕ) (m : Message) : Type 0 where
  pub message : IsMessage set trace.steps m.sent.no m.to
  pub place : IsPlace trace m.sent
  pub after : i < m.sent.tick
  pub until : m.sent.no ≤ k
  pub open_yet : m.fate ≡ Open

-- the list has these messages
abbrev pub AreOpenBy : ℕ → Recorded → ℕ → ℕ → List Message → Type 0
AreOpenBy set trace i k sent = IsListing SentBefore (IsOpenBy set trace i k) sent

-- what becomes of a message that no take, or this one, takes
abbrev pub fate_by : Option Take → Fate
fate_by None = Open
fate_by (Some t) = Taken (after t.sent t.before)

-- whether it is a take of message s
abbrev pub takes_no : ℕ → Take → Bool
takes_no s t = t.sent.no == s

-- the fate of message s after one take
abbrev pub fate_after : Take → ℕ → Fate → Fate
fate_after t s f = if takes_no s t then Taken (after t.sent t.before) else f

-- the list has the fates of the messages after number `before`, by these takes
pub record AreFates (before : ℕ) (taken : List Take) (fates : List Fate) : Type 0 where
  pub each : (s : ℕ) → before < s → s - before - 1 < length fates
      → slice_index_or fates (s - before - 1) Open ≡ fate_by (find (takes_no s) taken)

-- a message with the fate that the list has for it
abbrev pub fated : ℕ → List Fate → Message → Message
fated before fates m = record { sent = m.sent; to = m.to; fate = slice_index_or fates (m.sent.no - before - 1) Open }

-- the messages up to k with these fates
pub record AreFated (set : ℕ) (trace : Recorded) (i before k : ℕ) (fates : List Fate)
    (sent : List Message) : Type 0 where
  pub opens : List Message
  pub listing : AreOpenBy set trace i k opens
  pub same : sent ≡ map (fated before fates) opens

-- the last Receive of p after cut i among the steps up to k, or none
pub record IsLatestBy (trace : Recorded) (p i k : ℕ) (r : Place) : Type 0 where
  pub receive : IsReceiveOf trace.steps r.no p
  pub place : IsPlace trace r
  pub after : i < r.tick
  pub until : r.no ≤ k
  pub latest : (y : ℕ) → IsReceiveOf trace.steps y p → y ≤ k → y ≤ r.no

abbrev pub IsLastBy : Recorded → ℕ → ℕ → ℕ → Option Place → Type 0
IsLastBy trace p i k None = (y : ℕ) → IsReceiveOf trace.steps y p → i < tick_of trace y → y ≤ k → ⊥
IsLastBy trace p i k (Some r) = IsLatestBy trace p i k r

-- that of each member; others have none
pub record AreLastBy (set : ℕ) (trace : Recorded) (i k : ℕ) (last : List (Option Place)) : Type 0 where
  pub long : length last ≡ MAX_MEMBER + 1
  pub members : (p : ℕ) → IsTrue (has_proc set p) → IsLastBy trace p i k (last_of last p)
  pub others : (p : ℕ) → has_proc set p ≡ false → last_of last p ≡ None

-- a take by a step up to k, or by the next step among these ids
pub record IsAnyTakeBy (set : ℕ) (trace : Recorded) (i k : ℕ) (ids : List ℕ) (t : Take) : Type 0 where
  pub own : IsAnyTake set trace i t
  pub until : (t.at.no ≤ k) ⊎ ((t.at.no ≡ k + 1) × Contains ids t.sent.no)

-- the list has these takes
abbrev pub AreTakesBy : ℕ → Recorded → ℕ → ℕ → List ℕ → List Take → Type 0
AreTakesBy set trace i k ids taken = IsListing TakenBefore (IsAnyTakeBy set trace i k ids) taken

-- the take of message s by this Receive of p
abbrev pub take_of : Recorded → Place → ℕ → Option Place → ℕ → Take
take_of trace at p before s =
    record { at = at; by = p; sent = record { no = s; tick = tick_of trace s }; before = before }

-- the member whose step this is, or none
abbrev pub IsMemberAt : ℕ → List Step → ℕ → Option ℕ → Type 0
IsMemberAt set steps k None = (p : ℕ) → IsTrue (has_proc set p) → IsStepOf steps k p → ⊥
IsMemberAt set steps k (Some p) = IsTrue (has_proc set p) × IsStepOf steps k p

-- Silences are scanned tick by tick, and within a tick from its last step back. Done are the steps before tick x, and
-- of tick x those after number n.
abbrev pub IsDone : Recorded → ℕ → ℕ → ℕ → Type 0
IsDone trace x n k = (tick_of trace k < x) ⊎ ((tick_of trace k ≡ x) × (n < k))

-- p has a step in tick y that is done
pub record StepsDone (trace : Recorded) (x n p y : ℕ) : Type 0 where
  pub place : ℕ
  pub step : IsStepOf trace.steps place p
  pub tick : tick_of trace place ≡ y
  pub done : IsDone trace x n place

-- from tick v on p has no step that is done, and before it has one, or v is the block's first tick
pub record IsBegun (trace : Recorded) (i x n p v : ℕ) : Type 0 where
  pub low : i < v
  pub left : (v ≡ i + 1) ⊎ StepsDone trace x n p (v - 1)
  pub quiet : (k : ℕ) → IsStepOf trace.steps k p → IsDone trace x n k → tick_of trace k < v

-- a longest silence that a step ends which is done
pub record IsEnded (set : ℕ) (trace : Recorded) (i x n : ℕ) (w : Gap) : Type 0 where
  pub gap : IsGap set trace w
  pub after : i < w.from
  pub left : (w.from ≡ i + 1) ⊎ StepsIn trace (w.from - 1) w.proc
  pub right : StepsDone trace x n w.proc (w.to + 1)

-- the silences that ended, and for each member where its next one begins
pub record AreEnded (set : ℕ) (trace : Recorded) (i x n : ℕ) (silent : List Gap) (begun : List ℕ) : Type 0 where
  pub ended : IsListing EndsBefore (IsEnded set trace i x n) silent
  pub next : (p : ℕ) → IsTrue (has_proc set p) → IsBegun trace i x n p (slice_index_or begun p 0)

-- a longest silence that ends before the block does, or is of a processor from this one on
pub record IsLongestFrom (set : ℕ) (trace : Recorded) (i j least : ℕ) (w : Gap) : Type 0 where
  pub longest : IsLongest set trace i j w
  pub from : (w.to < j) ⊎ (least ≤ w.proc)

-- the list has these silences
abbrev pub AreLongestFrom : ℕ → Recorded → ℕ → ℕ → ℕ → List Gap → Type 0
AreLongestFrom set trace i j least silent = IsListing EndsBefore (IsLongestFrom set trace i j least) silent
