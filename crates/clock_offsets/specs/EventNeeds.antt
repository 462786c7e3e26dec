-- What the messages of events need of the clocks of their processors (own).
use Rattle.std.specs.Prelude.{ℕ, ◌-◌, ◌≡◌, ◌<◌, ◌==◌, ◌&&◌, Bool, List, length, fold, Option}
use Rattle.std.specs.Prelude.{Some, None, All, pos, slice_index_or, if◌then◌else◌}
use Rattle.std.proofs.Common.{ℤ, ◌+ℤ◌, ◌-ℤ◌, ◌≤ℤ◌, ◌<ℤ◌}
use Rattle.timed_events.specs.declared.cause_cycles.Hop.{Hop}
use Rattle.timed_events.specs.declared.events.Event.{Event}
use Rattle.timed_events.specs.Checks.{processor_at, time_at}
use Rattle.timed_events.specs.Received.{hops_of}
use Rattle.clock_offsets.specs.ClockOffsets.{AreForward, Needs, greater}
use Rattle.clock_offsets.specs.Matrices.{needs_at}
use Rattle.clock_offsets.specs.declared.refusals.OffsetError.{OffsetError}
use Rattle.clock_offsets.specs.declared.refusals.OffsetError.TheVariants.{Cycle, TooFar, Memory}

-- the clock of the event at a place, which is that of its processor; clocks are counted from 0
abbrev pub clock_at : List Event → ℕ → ℕ
clock_at events i = processor_at events i - 1

-- by how much the receiver's clock has to be ahead of the sender's, so that it is received later than it is sent
abbrev pub need_of : List Event → Hop → ℤ
need_of events hop = (time_at events hop.message -ℤ time_at events hop.event) +ℤ pos 1

-- whether a message went from the first clock to the second
abbrev pub is_between : List Event → ℕ → ℕ → Hop → Bool
is_between events i j hop = (clock_at events hop.message == i) && (clock_at events hop.event == j)

-- the greatest need of messages between two clocks, with one message more
abbrev pub with_need : List Event → ℕ → ℕ → Option ℤ → Hop → Option ℤ
with_need events i j need hop = if is_between events i j hop then greater need (Some (need_of events hop)) else need

-- the greatest need that any of these messages has, for each two clocks
abbrev pub needs_among : List Event → List Hop → Needs
needs_among events hops i j = fold (with_need events i j) None hops

-- the list has these needs
pub record AreNeedsAmong (events : List Event) (hops : List Hop) (needs : List (Option ℤ)) : Type 0 where
  pub long : length needs ≡ 4096
  pub each : (i j : ℕ) → i < 64 → j < 64 → needs_at needs i j ≡ needs_among events hops i j

-- a message is received later than it is sent, once each clock is moved
abbrev pub IsInOrder : List Event → (ℕ → ℤ) → Hop → Type 0
IsInOrder events x hop = (time_at events hop.message +ℤ x (clock_at events hop.message)) <ℤ
    (time_at events hop.event +ℤ x (clock_at events hop.event))

-- each message that the events received is
abbrev pub AreInOrder : List Event → (ℕ → ℤ) → Type 0
AreInOrder events x = All (IsInOrder events x) (hops_of events)

-- the offset of a clock, of those in a list
abbrev pub offset_in : List ℤ → ℕ → ℤ
offset_in offsets j = slice_index_or offsets j (pos 0)

-- Once each clock is moved by its offset, each message is received later than it is sent. No clock
-- is moved back, and of all such offsets each is the least.
pub record AreClockOffsets (n : ℕ) (events : List Event) (offsets : List ℤ) : Type 0 where
  pub long : length offsets ≡ n
  pub ordered : AreInOrder events (offset_in offsets)
  pub forward : AreForward n (offset_in offsets)
  pub least : (y : ℕ → ℤ) → AreInOrder events y → AreForward n y → (i : ℕ) → i < n → offset_in offsets i ≤ℤ y i

-- no offsets bring the messages into order; or numbers or memory don't suffice
abbrev pub IsClockRefusal : List Event → OffsetError → Type 0
IsClockRefusal events (Cycle clock) = (y : ℕ → ℤ) → ¬ AreInOrder events y
IsClockRefusal events TooFar = Unit {0}
IsClockRefusal events Memory = Unit {0}
