-- A walk over the events of all processors, each in its own order, that places each event behind its causes (own).
use Rattle.std.specs.Prelude.{ℕ, zero, suc, ◌≡◌, ◌+◌, ◌*◌, ◌-◌, ◌<◌, ◌≤◌, ◌⊎◌, List, [], ◌∷◌}
use Rattle.std.specs.Prelude.{length, Some, None, true, slice_index, slice_index_or}
use Rattle.step_trace.specs.declared.configurations.TheConstants.{MAX_PROCESSORS}
use Rattle.timed_events.specs.declared.events.Event.{Event}
use Rattle.timed_events.specs.Checks.{is_for, processor_at, messages_at}
use Rattle.timed_events.specs.Causes.{IsOwnBefore, IsFrom, IsSentTo, IsCause, IsFirstUnplaceable}
use Rattle.timed_events.specs.declared.events.EventError.{EventError}
use Rattle.timed_events.specs.declared.events.EventError.TheVariants.{Cycle, Memory}

-- the processor of an event, counted from 0
abbrev pub index_at : List Event → ℕ → ℕ
index_at events i = processor_at events i - 1

-- The list has for each event the next of its processor: none is between them. If there is none, a number that is no
-- event's place.
pub record AreNexts (events : List Event) (nexts : List ℕ) : Type 0 where
  pub long : length nexts ≡ length events
  pub own : (i : ℕ) → i < length events → slice_index nexts i < length events
      → IsOwnBefore events (slice_index nexts i) i
  pub first : (i j : ℕ) → j < length events → IsOwnBefore events j i
      → (slice_index nexts i < length events) × IsFrom events (slice_index nexts i) j

-- the list has for each processor its first event
pub record AreFirsts (events : List Event) (firsts : List ℕ) : Type 0 where
  pub wide : length firsts ≡ MAX_PROCESSORS
  pub own : (p : ℕ) → p < MAX_PROCESSORS → slice_index firsts p < length events
      → index_at events (slice_index firsts p) ≡ p
  pub first : (i : ℕ) → i < length events → (slice_index firsts (index_at events i) < length events)
      × IsFrom events (slice_index firsts (index_at events i)) i

-- how many numbers are 0
abbrev pub zeros : List ℕ → ℕ
zeros [] = 0
zeros (zero ∷ xs) = zeros xs + 1
zeros (suc x ∷ xs) = zeros xs

-- a number is in a list
pub record IsIn (x : ℕ) (xs : List ℕ) : Type 0 where
  pub k : ℕ
  pub within : k < length xs
  pub at : slice_index xs k ≡ x

-- event i waits for message s, whose Send isn't placed
pub record IsWaiting (events : List Event) (ranks : List ℕ) (i s : ℕ) : Type 0 where
  pub sent : IsSentTo events i s
  pub unplaced : slice_index ranks s ≡ 0

-- the messages of event i before the one at k were sent by placed events
abbrev pub AreMet : List Event → List ℕ → ℕ → ℕ → Type 0
AreMet events ranks i k = (a s : ℕ) → a < k → slice_index_or (messages_at events i) a None ≡ Some s → s < length events
    → 0 < slice_index ranks s

-- The order has the events that are placed, each behind its causes; ranks are their numbers in it,
-- 0 of the others. Each processor has its first event that isn't placed as head, and is awake, or
-- waits for a message of it.
pub record IsWalked (events : List Event) (heads met waits ranks order awake : List ℕ) : Type 0 where
  pub wide : (length heads ≡ MAX_PROCESSORS) × (length met ≡ MAX_PROCESSORS) × (length waits ≡ MAX_PROCESSORS)
  pub long : length ranks ≡ length events
  pub left : length order + zeros ranks ≡ length events
  pub placed : (k : ℕ) → k < length order → (slice_index order k < length events)
      × (slice_index ranks (slice_index order k) ≡ k + 1)
  pub ranked : (i : ℕ) → 0 < slice_index ranks i → (slice_index ranks i ≤ length order)
      × (slice_index order (slice_index ranks i - 1) ≡ i)
  pub after : (i j : ℕ) → 0 < slice_index ranks i → IsCause events i j
      → (0 < slice_index ranks j) × (slice_index ranks j < slice_index ranks i)
  pub next : (i : ℕ) → i < length events → slice_index ranks i ≡ 0
      → (slice_index heads (index_at events i) < length events)
      × IsFrom events (slice_index heads (index_at events i)) i
  pub head : (p : ℕ) → p < MAX_PROCESSORS → slice_index heads p < length events
      → (index_at events (slice_index heads p) ≡ p) × (slice_index ranks (slice_index heads p) ≡ 0)
  pub known : (p : ℕ) → p < MAX_PROCESSORS → slice_index heads p < length events
      → AreMet events ranks (slice_index heads p) (slice_index met p)
  pub asleep : (p : ℕ) → p < MAX_PROCESSORS → slice_index heads p < length events
      → IsIn p awake ⊎ IsWaiting events ranks (slice_index heads p) (slice_index waits p)
  pub inside : (k : ℕ) → k < length awake → slice_index awake k < MAX_PROCESSORS

-- each event that isn't placed has a cause that isn't
abbrev pub AreStuck : List Event → List ℕ → Type 0
AreStuck events ranks = (i : ℕ) → i < length events → slice_index ranks i ≡ 0
    → (j : ℕ) × IsCause events i j × (slice_index ranks j ≡ 0)

-- what is left to do: each event is placed once, and wakes at most one processor besides its own
abbrev pub left_to_do : List ℕ → List ℕ → ℕ
left_to_do ranks awake = 2 * zeros ranks + length awake

-- each message is received by those to whom it was sent
abbrev pub AreRightlyReceived : List Event → Type 0
AreRightlyReceived events = (i s : ℕ) → i < length events → IsSentTo events i s
    → is_for events s (processor_at events i) ≡ true

-- the answer is the first event in a cycle of causes or behind one, or out of memory
abbrev pub IsCycleRefusal : List Event → EventError → Type 0
IsCycleRefusal events Memory = Unit {0}
IsCycleRefusal events (Cycle event) = IsFirstUnplaceable events event
IsCycleRefusal events why = ⊥

-- each processor that has an event left waits for a message of it
abbrev pub AreWaiting : List Event → List ℕ → List ℕ → List ℕ → Type 0
AreWaiting events heads waits ranks = (p : ℕ) → p < MAX_PROCESSORS → slice_index heads p < length events
    → IsWaiting events ranks (slice_index heads p) (slice_index waits p)
