-- Logs whose clocks are aligned, and why others aren't.
use Rattle.std.proofs.Common.{ℕ, zero, suc, ◌≡◌, ◌<◌, ◌≤◌, ◌∙◌, ◌⊎◌, inl, inr, List, [], ◌∷◌, length, map, Option, Some, None, refl, sym, ap, subst, arith, ℤ}
use Rattle.std.specs.Prelude.{All, IfSome, get_or}
use Rattle.std.proofs.lemmas.List.{length-map}
use Rattle.std.proofs.lemmas.List.Elements.{All-cons, All-head, All-nil, All-tail}
use Rattle.timed_events.specs.declared.events.Event.{Event}
use Rattle.timed_events.specs.declared.events.EventError.{EventError}
use Rattle.timed_events.specs.declared.events.EventError.TheVariants as refused
use Rattle.timed_events.specs.Checks.{first_fault, AreOfProcessors, IsEventRefusal}
use Rattle.timed_events.proofs.SpreadTraces.{meant-processors}
use Rattle.clock_offsets.specs.declared.clock_cycles.ClockCycle.{ClockCycle}
use Rattle.clock_offsets.specs.declared.clock_cycles.ClockHop.{ClockHop}
use Rattle.clock_offsets.specs.ClockCycles.{IsClockCycle, LeadFrom}
use Rattle.clock_offsets.specs.EventNeeds.{clock_at}
use Rattle.clock_offsets.specs.MovedClocks.{moved_event}
use Rattle.event_log.specs.declared.reading.TheConstants.{MAX_EVENTS}
use Rattle.event_log.specs.declared.times.TimeKind.{TimeKind}
use Rattle.event_log.specs.Events.{seen}
use Rattle.event_log.specs.EventRefusals.{event_place, IsBehindCycle}
use Rattle.event_log.specs.SoundLogs.{IsSound, IsWithin}
use Rattle.event_log.proofs.EventPlaces.{fault-within}
use Rattle.event_log.proofs.LogCycles.{fault-behind}
use Rattle.event_log.proofs.MeantEvents.{are-meant}

-- events that are moved are of the same nodes
within-moved : (n : ℕ) (offsets : List ℤ) (events : List Event)
    → All (IsWithin n) (map seen events) → All (IsWithin n) (map seen (map (moved_event offsets) events))
within-moved n offsets [] h = All-nil (IsWithin n)
within-moved n offsets (e ∷ es) h =
    All-cons (IsWithin n) (seen (moved_event offsets e)) (map seen (map (moved_event offsets) es))
    (All-head (IsWithin n) (seen e) (map seen es) h)
    (within-moved n offsets es (All-tail (IsWithin n) (seen e) (map seen es) h))

pub sound-moved : (kind : TimeKind) (nodes : List (List ℕ)) (events moved : List Event) (offsets : List ℤ)
    → IsSound (record { kind = kind; nodes = nodes; events = map seen events })
    → moved ≡ map (moved_event offsets) events
    → IsSound (record { kind = kind; nodes = nodes; events = map seen moved })
sound-moved kind nodes events moved offsets s e = record {
  two = s.two;
  few_nodes = s.few_nodes;
  some = subst (λ n. 0 < n) (sym same) s.some;
  few_events = subst (λ n. n ≤ MAX_EVENTS) (sym same) s.few_events;
  within = subst (λ xs. All (IsWithin (length nodes)) (map seen xs)) (sym e) (within-moved (length nodes) offsets events s.within);
} where
  same : length (map seen moved) ≡ length (map seen events)
  same = length-map moved seen ∙ ap (λ xs. length xs) e ∙ length-map events (moved_event offsets) ∙ sym (length-map events seen)

-- there are events, not too many, of processors
pub some-events : (kind : TimeKind) (nodes : List (List ℕ)) (events : List Event)
    → IsSound (record { kind = kind; nodes = nodes; events = map seen events }) → 0 < length events
some-events kind nodes events s = let same = length-map events seen in let some = s.some in omega (arith, some, same)

pub few-events : (kind : TimeKind) (nodes : List (List ℕ)) (events : List Event)
    → IsSound (record { kind = kind; nodes = nodes; events = map seen events }) → length events ≤ MAX_EVENTS
few-events kind nodes events s = let same = length-map events seen in let few = s.few_events in omega (arith, few, same)

pub of-processors : (kind : TimeKind) (nodes : List (List ℕ)) (events : List Event)
    → IsSound (record { kind = kind; nodes = nodes; events = map seen events }) → AreOfProcessors events
of-processors kind nodes events s = meant-processors (length nodes) events s.few_nodes (are-meant (length nodes) events s.within)

-- a reason against messages, or out of memory
due-fault : (why : EventError) (o : Option EventError) → IsEventRefusal why o → (why ≡ refused.Memory) ⊎ (o ≡ Some why)
due-fault refused.UntilTooEarly o h = inr h
due-fault refused.TooManyTicks o h = inr h
due-fault (refused.NeverSent i k) o h = inr h
due-fault (refused.WrongReceiver i k) o h = inr h
due-fault (refused.ReceivedBefore i k) o h = inr h
due-fault (refused.NotLater i k hint) o h = inr h
due-fault (refused.SecondEvent i tick hint) o h = inr h
due-fault (refused.Cycle i) o h = inr h
due-fault refused.Memory o h = inl refl

pub fault-place : (events : List Event) (why : EventError)
    → 0 < length events → length events ≤ MAX_EVENTS → IsEventRefusal why (first_fault events) → event_place why < MAX_EVENTS
fault-place events why some few h = go (due-fault why (first_fault events) h) where
  go : (why ≡ refused.Memory) ⊎ (first_fault events ≡ Some why) → event_place why < MAX_EVENTS
  go (inl m) = subst (λ w. event_place w < MAX_EVENTS) (sym m) (omega (arith, some, few))
  go (inr f) = let l = fault-within events why f in omega (arith, l, few)

pub fault-cycle : (events : List Event) (why : EventError)
    → IsEventRefusal why (first_fault events) → (i : ℕ) → why ≡ refused.Cycle i → IsBehindCycle events i
fault-cycle events why h i e = go (due-fault why (first_fault events) h) where
  go : (why ≡ refused.Memory) ⊎ (first_fault events ≡ Some why) → IsBehindCycle events i
  go (inl m) = absurd (cc (e, m))
  go (inr f) = fault-behind events i (f ∙ ap (λ w. Some w) e)

-- the messages of a cycle are those of events
lead-inside : (events : List Event) (from to : ℕ) (hops : List ClockHop)
    → LeadFrom events from hops to → (k : ℕ) (d : ClockHop) → k < length hops → (get_or hops k d).message < length events
lead-inside events from to [] l k d b = absurd (omega arith)
lead-inside events from to (h ∷ hs) l zero d b = l.0.taken.inside
lead-inside events from to (h ∷ hs) l (suc k) d b = lead-inside events (clock_at events h.event) to hs l.1 k d (omega arith)

pub cycle-inside : (events : List Event) (cycle : Option ClockCycle) → length events ≤ MAX_EVENTS
    → IfSome cycle (λ c. IsClockCycle events c) → (c : ClockCycle) (k : ℕ) (d : ClockHop) → cycle ≡ Some c
    → k < length c.hops.items → (get_or c.hops.items k d).message < MAX_EVENTS
cycle-inside events None few s c k d e b = absurd (cc e)
cycle-inside events (Some x) few s c k d e b =
    let same : x ≡ c = cc e in
    let is = subst (IsClockCycle events) same s in
    let l = lead-inside events is.clock is.clock c.hops.items is.round k d b in
    omega (arith, l, few)
