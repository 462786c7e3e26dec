-- How merged receives are found: each event is given the one into which it is merged.
use Rattle.std.specs.Prelude.{ℕ, ◌≡◌, ◌==◌, ◌<◌, ◌≤◌, Bool, false, true, List, [], ◌∷◌, length}
use Rattle.std.specs.Prelude.{map, nat_lt, slice_index, slice_index_or, if◌then◌else◌}
use Rattle.std.specs.List.{filter, range_with_len}
use Rattle.timed_events.specs.declared.events.Event.{Event}
use Rattle.merged_receives.specs.Merges.{is_merged, is_part, receives_at}

-- a part has an event at least, and its events are among so many
pub record ArePart (n : ℕ) (part : List ℕ) : Type 0 where
  pub some : 0 < length part
  pub inside : (k : ℕ) → k < length part → slice_index part k < n

-- each of these is one
abbrev pub AreParts : ℕ → List (List ℕ) → Type 0
AreParts n parts = (k : ℕ) → k < length parts → ArePart n (slice_index_or parts k [])

-- ticks don't fall along an order
abbrev pub AreRising : List ℕ → List ℕ → Type 0
AreRising ticks order = (j k : ℕ) → j < k → k < length order
    → slice_index ticks (slice_index order j) ≤ slice_index ticks (slice_index order k)

-- the event into which event i of n is merged if it receives, or itself, if this receive of its processor is open
abbrev pub head_if : Bool → ℕ → List ℕ → ℕ → ℕ → ℕ
head_if receives n ticks latest i =
    if receives then (if nat_lt latest n
    then (if slice_index ticks latest == slice_index ticks i then latest else i) else i) else i

-- the event into which event i is merged, or itself, if this receive of its processor is open
abbrev pub head_by : List Event → List ℕ → ℕ → ℕ → ℕ
head_by events ticks latest i = head_if (receives_at events i) (length events) ticks latest i

-- event h isn't merged into another, and event i is it or is merged into it
pub record IsHead (events : List Event) (ticks : List ℕ) (h i : ℕ) : Type 0 where
  pub inside : h < length events
  pub stays : is_merged events ticks h ≡ false
  pub part : is_part events ticks h i ≡ true

-- the heads of all events
pub record AreHeadsOf (events : List Event) (ticks heads : List ℕ) : Type 0 where
  pub long : length heads ≡ length events
  pub each : (i : ℕ) → i < length events → IsHead events ticks (slice_index heads i) i

-- whether a list isn't empty
abbrev pub has_some : List ℕ → Bool
has_some [] = false
has_some (x ∷ xs) = true

-- of each event that is some event's head the events of which it is the head, in their order
unfoldable pub own_parts : List ℕ → List ℕ → List (List ℕ)
own_parts heads order = filter has_some
    (map (λ h. filter (λ i. slice_index heads i == h) order) (range_with_len 0 (length heads)))

-- the events before a place that are their own heads
unfoldable pub own_before : List ℕ → ℕ → List ℕ
own_before heads s = filter (λ i. slice_index heads i == i) (range_with_len 0 s)

-- of each event how many before it are their own heads
unfoldable pub places_before : List ℕ → List ℕ
places_before heads = map (λ s. length (own_before heads s)) (range_with_len 0 (length heads))
