-- Reasons against the events that are left, by their places in the log.
use Rattle.std.proofs.Common.{ℕ, zero, suc, ◌≡◌, ◌-◌, ◌<◌, ◌≤◌, ◌⊎◌, inl, inr, Bool, true, false, cond, Option, Some, None, List, [], ◌∷◌, length, map, get_or, slice_index, refl, ap, arith}
use Rattle.std.specs.Prelude.{nat_lt, slice_index_or}
use Rattle.std.proofs.lemmas.Bool.{cases_lt}
use Rattle.std.proofs.lemmas.List.{get_or_past}
use Rattle.timed_events.specs.declared.cause_cycles.Hop.{Hop}
use Rattle.timed_events.specs.declared.events.Event.{Event}
use Rattle.timed_events.specs.declared.events.EventError.{EventError}
use Rattle.timed_events.specs.declared.events.EventError.TheVariants as refused
use Rattle.timed_events.specs.declared.idle_traces.IdleError.TheVariants as filled
use Rattle.timed_events.specs.Checks.{messages_at}
use Rattle.merged_receives.specs.MergeWalks.{AreParts}
use Rattle.event_log.specs.declared.reading.TheConstants.{MAX_EVENTS}
use Rattle.event_log.specs.declared.refusals.LogError.{LogError}
use Rattle.event_log.specs.EventRefusals.{IsErrorUnlessMemory, event_place}
use Rattle.event_log.specs.LeftRefusals.{IsPlacedErrorUnlessMemory}
use Rattle.event_log.specs.LogPlaces.{hop_in, place_in, reason_in, source_in, source_of}

-- a reason other than a cycle is reported by the place of its event
pub placed-error : (text : List ℕ) (nodes : List (List ℕ)) (events left : List Event) (places : List ℕ)
    (parts : Option (List (List ℕ))) (why : EventError) (error : LogError) → ((i : ℕ) → ¬ (why ≡ refused.Cycle i))
    → IsErrorUnlessMemory text nodes events (reason_in events places parts why) error
    → IsPlacedErrorUnlessMemory text nodes events left places parts (filled.Events why) error
placed-error text nodes events left places parts refused.UntilTooEarly error other h = h
placed-error text nodes events left places parts refused.TooManyTicks error other h = h
placed-error text nodes events left places parts (refused.NeverSent i k) error other h = h
placed-error text nodes events left places parts (refused.WrongReceiver i k) error other h = h
placed-error text nodes events left places parts (refused.ReceivedBefore i k) error other h = h
placed-error text nodes events left places parts (refused.NotLater i k hint) error other h = h
placed-error text nodes events left places parts (refused.SecondEvent i tick hint) error other h = h
placed-error text nodes events left places parts (refused.Cycle i) error other h = absurd (other i refl)
placed-error text nodes events left places parts refused.Memory error other h = h

-- it is no cycle there either
pub no-cycle : (events : List Event) (places : List ℕ) (parts : Option (List (List ℕ))) (why : EventError)
    → ((i : ℕ) → ¬ (why ≡ refused.Cycle i)) → (i : ℕ) → ¬ (reason_in events places parts why ≡ refused.Cycle i)
no-cycle events places parts refused.UntilTooEarly other i e = absurd (cc e)
no-cycle events places parts refused.TooManyTicks other i e = absurd (cc e)
no-cycle events places parts (refused.NeverSent j k) other i e = absurd (cc e)
no-cycle events places parts (refused.WrongReceiver j k) other i e = absurd (cc e)
no-cycle events places parts (refused.ReceivedBefore j k) other i e = absurd (cc e)
no-cycle events places parts (refused.NotLater j k hint) other i e = absurd (cc e)
no-cycle events places parts (refused.SecondEvent j tick hint) other i e = absurd (cc e)
no-cycle events places parts (refused.Cycle j) other i e = absurd (other j refl)
no-cycle events places parts refused.Memory other i e = absurd (cc e)

-- the event that received a message is one of those of which an event is made
source-within : (events : List Event) (part : List ℕ)
    → ((k : ℕ) → k < length part → slice_index part k < MAX_EVENTS) → (k : ℕ) → (source_of events part k).0 < MAX_EVENTS
source-within events [] h k = omega arith
source-within events (p ∷ ps) h k = go (nat_lt k (length (messages_at events p)))
    (h zero (omega arith)) (source-within events ps (λ j l. h (suc j) (omega (arith, l))) (k - length (messages_at events p))) where
      go : (t : Bool) → p < MAX_EVENTS → (source_of events ps (k - length (messages_at events p))).0 < MAX_EVENTS
          → (let z : ℕ × ℕ = cond t (p, k) (source_of events ps (k - length (messages_at events p))) in
          z.0 < MAX_EVENTS)
      go true a b = a
      go false a b = b

-- the parts at a place, if any, are places of events
pub part-inside : (n : ℕ) (parts : List (List ℕ)) → AreParts n parts
    → (i j : ℕ) → j < length (slice_index_or parts i []) → slice_index (slice_index_or parts i []) j < n
part-inside n parts a i j l = go (cases_lt i (length parts)) where
  go : (i < length parts) ⊎ (length parts ≤ i) → slice_index (slice_index_or parts i []) j < n
  go (inl b) = (a i b).inside j l
  go (inr b) = absurd (let e = ap (λ (xs : List ℕ). length xs) (get_or_past parts i [] b) in omega (arith, e, l))

module _ (places : List ℕ) (within : (k : ℕ) → k < length places → slice_index places k < MAX_EVENTS) where
  -- the places are those of a log's events
  pub place-within : (i : ℕ) → place_in places i < MAX_EVENTS
  place-within i = go (cases_lt i (length places)) where
    go : (i < length places) ⊎ (length places ≤ i) → place_in places i < MAX_EVENTS
    go (inl b) = within i b
    go (inr b) = let e = get_or_past places i 0 b in omega (arith, e)

  module _ (events : List Event) (few : length events ≤ MAX_EVENTS) where
    sources-within : (parts : Option (List (List ℕ))) → ((own : List (List ℕ)) → parts ≡ Some own → AreParts (length events) own)
        → (i k : ℕ) → (source_in events places parts i k).0 < MAX_EVENTS
    sources-within None h i k = place-within i
    sources-within (Some own) h i k = source-within events
        (slice_index_or own i []) (λ j l. let b = part-inside (length events) own (h own refl) i j l in omega (arith, b, few)) k

    module _ (parts : Option (List (List ℕ))) (inside : (own : List (List ℕ)) → parts ≡ Some own → AreParts (length events) own) where
      pub reason-within : (why : EventError) → event_place (reason_in events places parts why) < MAX_EVENTS
      reason-within refused.UntilTooEarly = omega arith
      reason-within refused.TooManyTicks = omega arith
      reason-within (refused.NeverSent i k) = sources-within parts inside i k
      reason-within (refused.WrongReceiver i k) = sources-within parts inside i k
      reason-within (refused.ReceivedBefore i k) = sources-within parts inside i k
      reason-within (refused.NotLater i k hint) = sources-within parts inside i k
      reason-within (refused.SecondEvent i tick hint) = place-within i
      reason-within (refused.Cycle i) = place-within i
      reason-within refused.Memory = omega arith

  pub hops-within : (hops : List Hop) (k : ℕ) (d : Hop)
      → k < length (map (hop_in places) hops) → (get_or (map (hop_in places) hops) k d).message < MAX_EVENTS
  hops-within [] k d b = absurd (omega (arith, b))
  hops-within (h ∷ hs) zero d b = place-within h.message
  hops-within (h ∷ hs) (suc k) d b = hops-within hs k d (omega (arith, b))
