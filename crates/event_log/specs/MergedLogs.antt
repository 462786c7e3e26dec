-- Events of a log that are made of several, by their places in it.
use Rattle.std.specs.Prelude.{ℕ, ◌≡◌, ◌<◌, List, Option, Some, None, ⊤, length, map, slice_index}
use Rattle.timed_events.specs.declared.events.Clock.{Clock}
use Rattle.timed_events.specs.declared.events.Event.{Event}
use Rattle.merged_receives.specs.MergeWalks.{AreParts}
use Rattle.event_log.specs.LogPlaces.{log_place}
use Rattle.event_log.specs.Merges.{AreJoined}

-- the events at these places are among so many
abbrev pub ArePartsWithin : Option (List (List ℕ)) → ℕ → Type 0
ArePartsWithin None n = ⊤
ArePartsWithin (Some parts) n = AreParts n parts

-- `merged` are the events with merged receives. In the log, where the events are at these places,
-- they are made of those at the places `parts`, of which `places` are the first.
pub record AreMergedIn (events : List Event) (clock : Clock) (at : Option (List ℕ)) (merged : List Event)
    (places : List ℕ) (parts : Option (List (List ℕ))) : Type 0 where
  pub own : List (List ℕ)
  pub are : AreJoined events clock merged own
  pub inside : AreParts (length events) own
  pub some : 0 < length own
  pub parts_are : parts ≡ Some (map (map (log_place at)) own)
  pub places_are : places ≡ map (λ part. slice_index part 0) (map (map (log_place at)) own)
