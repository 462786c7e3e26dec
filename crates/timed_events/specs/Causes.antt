-- The causes of events, and orders of events that keep them, whatever their times (own).
use Rattle.std.specs.Prelude.{ℕ, ◌≡◌, ◌<◌, ◌⊎◌, List, length, Bool, IsTrue}
use Rattle.std.specs.Prelude.{not, ◌&&◌, ◌||◌, nat_lt, int_lt, slice_index}
use Rattle.timed_events.specs.declared.events.Event.{Event}
use Rattle.std.specs.List.{list_any, range_with_len}
use Rattle.std.specs.List.Sorted.{IsPermutation}
use Rattle.timed_events.specs.Checks.{time_at, processor_at, messages_at, is_message}

-- whether event j comes before event i: by their times, and at one time by their places
abbrev pub is_earlier : List Event → ℕ → ℕ → Bool
is_earlier events j i = int_lt (time_at events j) (time_at events i) ||
    (not (int_lt (time_at events i) (time_at events j)) && nat_lt j i)

-- whether event i received the message of event s
abbrev pub takes : List Event → ℕ → ℕ → Bool
takes events i s = list_any (is_message s) (messages_at events i)

-- The list has each place of the events once, each event before those that come after it.
pub record IsTimeOrder (events : List Event) (order : List ℕ) : Type 0 where
  pub places : IsPermutation (range_with_len 0 (length events)) order
  pub rising : (j k : ℕ) → j < k → k < length order
      → IsTrue (is_earlier events (slice_index order j) (slice_index order k))

-- event j is of the processor of event i, and comes before it
pub record IsOwnBefore (events : List Event) (i j : ℕ) : Type 0 where
  pub inside : j < length events
  pub own : processor_at events j ≡ processor_at events i
  pub earlier : IsTrue (is_earlier events j i)

-- event j is event i, or one of its processor that comes after it
abbrev pub IsFrom : List Event → ℕ → ℕ → Type 0
IsFrom events i j = (j ≡ i) ⊎ IsOwnBefore events j i

-- event i received the message of event j
pub record IsSentTo (events : List Event) (i j : ℕ) : Type 0 where
  pub inside : j < length events
  pub taken : IsTrue (takes events i j)

-- each message was sent by an event that comes before those that received it
abbrev pub AreSentBefore : List Event → Type 0
AreSentBefore events = (i j : ℕ) → i < length events → IsSentTo events i j → IsTrue (is_earlier events j i)

-- event j is a cause of event i: it is an event of the same processor that comes before i, or the Send of a message
-- that i received
abbrev pub IsCause : List Event → ℕ → ℕ → Type 0
IsCause events i j = IsOwnBefore events i j ⊎ IsSentTo events i j

-- The list has places of events, no event twice, and each event behind all its causes.
pub record IsCausalPart (events : List Event) (part : List ℕ) : Type 0 where
  pub inside : (k : ℕ) → k < length part → slice_index part k < length events
  pub apart : (j k : ℕ) → j < length part → k < length part → slice_index part j ≡ slice_index part k → j ≡ k
  pub causes : (k i : ℕ) → k < length part → IsCause events (slice_index part k) i
      → (j : ℕ) × (j < k) × (slice_index part j ≡ i)

-- Such a list of all events.
pub record IsCausalOrder (events : List Event) (order : List ℕ) : Type 0 where
  pub part : IsCausalPart events order
  pub long : length order ≡ length events
  pub found : (i : ℕ) → i < length events → (k : ℕ) × (k < length order) × (slice_index order k ≡ i)

-- some list of events behind their causes has event i: so it isn't in a cycle of causes, nor behind one
pub record IsPlaceable (events : List Event) (i : ℕ) : Type 0 where
  pub part : List ℕ
  pub is : IsCausalPart events part
  pub k : ℕ
  pub within : k < length part
  pub at : slice_index part k ≡ i

-- event i is the first, by its place, that no such list has
pub record IsFirstUnplaceable (events : List Event) (i : ℕ) : Type 0 where
  pub inside : i < length events
  pub behind : ¬ IsPlaceable events i
  pub before : (j : ℕ) → j < i → IsPlaceable events j
