-- What is known of the Receives after a step, in numbers from 1 with 0 for none. Numbers rise with ticks. So a miss
-- is also one by the numbers of its steps, as long as its Receive is in a later tick than its Send.
use Rattle.std.specs.Prelude.{ℕ, ◌≡◌, ◌+◌, ◌<◌, ◌≤◌, ◌==◌, List, ◌∷◌, length}
use Rattle.std.specs.Prelude.{slice_index, slice_set, IsTrue, if◌then◌else◌}
use Rattle.step_trace.specs.declared.rows.Miss.{Miss}
use Rattle.step_trace.specs.declared.steps.Step.{Step}
use Rattle.step_trace.specs.Processors.{has_proc}
use Rattle.step_trace.specs.Traces.{Recorded, TakesAt, IsReceiveOf, IsSentTo}
use Rattle.step_trace.specs.Bounds.{IsMessage}
use Rattle.step_trace.specs.MessageNotes.{AreNoted}
use Rattle.suffix_staircase.specs.declared.receives.Receives.{Receives}

-- some Receive after message s, up to number y, takes it
pub record IsDeliveredByNumber (steps : List Step) (s y : ℕ) : Type 0 where
  pub place : ℕ
  pub after : s < place
  pub until : place ≤ y
  pub takes : TakesAt steps place s

-- a message between members, and a later Receive of its receiver up to which none took it
pub record IsMissByNumber (set : ℕ) (steps : List Step) (m : Miss) : Type 0 where
  pub to : ℕ
  pub message : IsMessage set steps m.sent to
  pub receive : IsReceiveOf steps m.missed to
  pub late : m.sent < m.missed
  pub undelivered : ¬ IsDeliveredByNumber steps m.sent m.missed

-- the last Receive that misses message s by number
pub record IsLastMissByNumber (set : ℕ) (steps : List Step) (s r : ℕ) : Type 0 where
  pub found : 0 < r → IsMissByNumber set steps (record { sent = s; missed = r })
  pub last : (y : ℕ) → IsMissByNumber set steps (record { sent = s; missed = y }) → y ≤ r

-- the Receive after step x that takes message s
pub record IsTaker (steps : List Step) (x s place : ℕ) : Type 0 where
  pub found : 0 < place → (x < place) × TakesAt steps place s
  pub none : place ≡ 0 → (y : ℕ) → x < y → ¬ TakesAt steps y s

-- the last Receive of p strictly between two places
pub record IsLastReceive (steps : List Step) (p low high r : ℕ) : Type 0 where
  pub found : 0 < r → (low < r) × (r < high) × IsReceiveOf steps r p
  pub last : (y : ℕ) → IsReceiveOf steps y p → low < y → y < high → y ≤ r

-- the first Receive of p after a place
pub record IsFirstReceive (steps : List Step) (p low r : ℕ) : Type 0 where
  pub found : 0 < r → (low < r) × IsReceiveOf steps r p
  pub first : (y : ℕ) → IsReceiveOf steps y p → low < y → (0 < r) × (r ≤ y)

-- what is known of the Receives of members after step x
pub record KnowsReceives (set : ℕ) (trace : Recorded) (x : ℕ) (r : Receives) : Type 0 where
  pub links_long : length r.links.items ≡ length trace.steps + 1
  pub first_long : length r.first.items ≡ trace.config.n + 1
  pub last_long : length r.last.items ≡ trace.config.n + 1
  pub taken : (s p : ℕ) → IsTrue (has_proc set p) → IsSentTo trace.steps s p
      → IsTaker trace.steps x s (slice_index r.links.items s)
  pub before : (p y : ℕ) → IsTrue (has_proc set p) → IsReceiveOf trace.steps y p → x < y
      → IsLastReceive trace.steps p x y (slice_index r.links.items y)
  pub clear : (p y : ℕ) → IsReceiveOf trace.steps y p → y ≤ x → slice_index r.links.items y ≡ 0
  pub first : (p : ℕ) → p ≤ trace.config.n → IsTrue (has_proc set p)
      → IsFirstReceive trace.steps p x (slice_index r.first.items p)
  pub last : (p : ℕ) → p ≤ trace.config.n → IsTrue (has_proc set p)
      → IsLastReceive trace.steps p x (length trace.steps + 1) (slice_index r.last.items p)

-- what changes if the Receive x of p, which takes these messages, is scanned: it is linked from them, and from the
-- Receive of p that follows
pub record NotesReceive (x p : ℕ) (ids : List ℕ) (old new : Receives) : Type 0 where
  pub long : length new.links.items ≡ length old.links.items
  pub links : AreNoted x (slice_index old.first.items p ∷ ids) old.links.items new.links.items
  pub first : new.first.items ≡ slice_set old.first.items p x
  pub last : new.last.items
      ≡ (if slice_index old.last.items p == 0 then slice_set old.last.items p x else old.last.items)

-- the last Receive of p before the one that takes message s, or the last of all if none does
abbrev pub last_missed : Receives → ℕ → ℕ → ℕ
last_missed r s p =
    let taker = slice_index r.links.items s in
    if taker == 0 then slice_index r.last.items p else slice_index r.links.items taker
