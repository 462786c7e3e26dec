-- Receives of a processor in one tick of their times that are one, since it sends nothing between them.
use Rattle.std.specs.Prelude.{ℕ, ◌≡◌, ◌==◌, ◌&&◌, ◌||◌, not, Bool, true, false}
use Rattle.std.specs.Prelude.{List, length, map, None, slice_get, slice_index}
use Rattle.std.specs.List.{filter, range_with_len}
use Rattle.std.specs.Option.{option_map_or}
use Rattle.timed_events.specs.declared.events.Clock.{Clock}
use Rattle.timed_events.specs.declared.events.Event.{Event}
use Rattle.timed_events.specs.declared.events.EventAct.{EventAct}
use Rattle.timed_events.specs.declared.events.EventAct.TheVariants as act
use Rattle.timed_events.specs.Causes.{IsTimeOrder, is_earlier}
use Rattle.timed_events.specs.Checks.{processor_at, sends_at}
use Rattle.timed_events.specs.Firsts.{any_below}
use Rattle.timed_events.specs.Times.{time_ticks, times_refusal}

abbrev pub is_receive : EventAct → Bool
is_receive (act.Send to) = false
is_receive (act.Receive messages) = true

-- whether event i receives, possibly nothing
abbrev pub receives_at : List Event → ℕ → Bool
receives_at events i = option_map_or (λ e. is_receive e.act) (slice_get events i) false

-- whether event s is a Send of the processor of event i that comes after event j and before event i
unfoldable pub is_send_between : List Event → ℕ → ℕ → ℕ → Bool
is_send_between events j i s = sends_at events s &&
    ((processor_at events s == processor_at events i) && (is_earlier events j s && is_earlier events s i))

-- whether events j and i are receives of one processor in one tick, j the earlier one, and none of its Sends is between
unfoldable pub is_joined : List Event → List ℕ → ℕ → ℕ → Bool
is_joined events ticks j i =
    receives_at events j &&
    (receives_at events i && ((processor_at events j == processor_at events i) &&
    ((slice_index ticks j == slice_index ticks i)
    && (is_earlier events j i && not (any_below (is_send_between events j i) (length events))))))

-- whether event i is merged into an earlier one
unfoldable pub is_merged : List Event → List ℕ → ℕ → Bool
is_merged events ticks i = any_below (λ j. is_joined events ticks j i) (length events)

-- whether event i is event h or is merged into it
unfoldable pub is_part : List Event → List ℕ → ℕ → ℕ → Bool
is_part events ticks h i = (h == i) || is_joined events ticks h i

-- the events before a place that aren't merged into earlier ones, in the order of their places
unfoldable pub staying_before : List Event → List ℕ → ℕ → List ℕ
staying_before events ticks s = filter (λ i. not (is_merged events ticks i)) (range_with_len 0 s)

-- of each event how many before it stay
unfoldable pub staying_places : List Event → List ℕ → List ℕ
staying_places events ticks = map (λ s. length (staying_before events ticks s)) (range_with_len 0 (length events))

-- of each event that stays the events of which it is made, in an order of all events
unfoldable pub parts_of : List Event → List ℕ → List ℕ → List (List ℕ)
parts_of events ticks order = map (λ h. filter (is_part events ticks h) order)
    (staying_before events ticks (length events))

-- The times of the events have ticks. Of each event that stays `parts` has the places of the events
-- of which it is made, in the order of their times; `places` has of each event how many before it
-- stay.
pub record AreMerged (events : List Event) (clock : Clock) (parts : List (List ℕ)) (places : List ℕ) : Type 0 where
  pub passed : times_refusal events clock ≡ None
  pub order : List ℕ
  pub in_time : IsTimeOrder events order
  pub parts_are : parts ≡ parts_of events (time_ticks events clock) order
  pub places_are : places ≡ staying_places events (time_ticks events clock)
