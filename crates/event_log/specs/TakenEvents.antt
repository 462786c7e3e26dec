-- The events of a log of which its trace is made.
use Rattle.std.specs.Prelude.{ℕ, ◌≡◌, ◌<◌, ◌-◌, Bool, false, List, [], map, length, Option, Some, None, option_map}
use Rattle.std.specs.Prelude.{if◌then◌else◌, slice_index, true}
use Rattle.timed_events.specs.declared.events.Event.{Event}
use Rattle.timed_events.specs.declared.events.EventError.{EventError}
use Rattle.timed_events.specs.declared.events.EventError.TheVariants as refused
use Rattle.timed_events.specs.declared.events.Clock.{Clock}
use Rattle.timed_events.specs.Times.{times_refusal}
use Rattle.event_log.specs.declared.refusals.LogError.{LogError}
use Rattle.event_log.specs.declared.refusals.LogError.TheVariants.{NoEvents, UntilUnfit, TooManyTicks}
use Rattle.event_log.specs.LostSends.{AreLeft, left_places}
use Rattle.event_log.specs.Merges.{AreJoined}
use Rattle.event_log.specs.LogPlaces.{log_place}

-- If lost sends are left out, `left` are the other events, and these are their places; else `left` are all events, each
-- at its own place.
abbrev pub AreLeftBy : Bool → List Event → List Event → Option (List ℕ) → Type 0
AreLeftBy false events left places = (left ≡ events) × (places ≡ None)
AreLeftBy true events left None = ⊥
AreLeftBy true events left (Some places) = AreLeft events left places

-- what becomes of these events if receives are merged, and of which of them each is made then
abbrev pub AreMergedBy : Bool → List Event → Clock → List Event → Option (List (List ℕ)) → Type 0
AreMergedBy false events clock left parts = (left ≡ events) × (parts ≡ None)
AreMergedBy true events clock left None = ⊥
AreMergedBy true events clock left (Some parts) = AreJoined events clock left parts

-- the same by the places in the log
abbrev pub log_parts : Option (List ℕ) → Option (List (List ℕ)) → Option (List (List ℕ))
log_parts places parts = option_map (map (map (log_place places))) parts

-- where events are in the log, of which each is made of the events at these places, if any is made of several
abbrev pub first_places : Option (List ℕ) → Option (List (List ℕ)) → Option (List ℕ)
first_places places None = places
first_places places (Some parts) = Some (map (λ part. slice_index part 0) parts)

-- `left` are the events of a log of which its trace is made: without lost sends if these are left
-- out, after which there are some, then with merged receives if that is asked for. They are at the
-- places `left_at` of the log, the first if they are made of several, whose places are `parts`.
pub record AreTaken (drop merge : Bool) (events : List Event) (clock : Clock) (left : List Event)
    (left_at : Option (List ℕ)) (parts : Option (List (List ℕ))) : Type 0 where
  pub kept : List Event
  pub kept_at : Option (List ℕ)
  pub are_kept : AreLeftBy drop events kept kept_at
  pub some : 0 < length kept
  pub own_parts : Option (List (List ℕ))
  pub are_merged : AreMergedBy merge kept clock left own_parts
  pub parts_are : parts ≡ log_parts kept_at own_parts
  pub at : left_at ≡ first_places kept_at parts

-- how many events are left, if lost sends are left out or not
abbrev pub kept_count : Bool → List Event → ℕ
kept_count drop events = if drop then length (left_places events) else length events

-- how many events a step takes away of so many, if it is asked for
abbrev pub removed_by : Bool → ℕ → ℕ → Option ℕ
removed_by asked before after = if asked then Some (before - after) else None

-- all events are lost sends, which are left out
abbrev pub IsEmptied : Bool → List Event → LogError → Type 0
IsEmptied drop events why = (drop ≡ true) × (left_places events ≡ []) × (why ≡ NoEvents)

-- the refusal of a log for a reason against the times of its events
abbrev pub IsTimesError : EventError → LogError → Type 0
IsTimesError refused.UntilTooEarly error = error ≡ UntilUnfit
IsTimesError refused.TooManyTicks error = error ≡ TooManyTicks
IsTimesError why error = ⊥

-- receives are to be merged, and there is a reason against the times of the events that are left; some are
pub record IsUnmergedOf (drop merge : Bool) (events : List Event) (clock : Clock) (why : LogError) : Type 0 where
  pub asked : merge ≡ true
  pub kept : List Event
  pub kept_at : Option (List ℕ)
  pub are_kept : AreLeftBy drop events kept kept_at
  pub some : 0 < length kept
  pub reason : EventError
  pub refused : times_refusal kept clock ≡ Some reason
  pub is : IsTimesError reason why
