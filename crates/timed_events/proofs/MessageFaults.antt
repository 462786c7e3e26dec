-- Events whose messages are in order, whatever the ticks.
use Rattle.std.proofs.Common.{ℕ, ◌≡◌, ◌<◌, Bool, true, false, cond, List, length, Option, Some, None, refl, ap, subst}
use Rattle.std.specs.Prelude.{slice_index, slice_index_or, nat_lt}
use Rattle.std.proofs.lemmas.Bool.{lt-ltb}
use Rattle.timed_events.specs.declared.events.Event.{Event}
use Rattle.timed_events.specs.declared.events.EventError.{EventError}
use Rattle.timed_events.specs.declared.events.EventError.TheVariants.{WrongReceiver, ReceivedBefore, NotLater}
use Rattle.timed_events.specs.Firsts.{first_of}
use Rattle.timed_events.specs.Checks.{is_for, processor_at, messages_at, was_received, late_hint, message_fault, message_faults, first_fault, message_refusal, events_refusal, AreOfProcessors}
use Rattle.timed_events.specs.CausalWalks.{AreRightlyReceived}
use Rattle.timed_events.specs.Spreads.{AreLeast}
use Rattle.timed_events.proofs.Firsts.{first_of-found, first_of-each}
use Rattle.timed_events.proofs.TakenMessages.{is_for-inside}
use Rattle.timed_events.proofs.FittingEvents.{names-message}
use Rattle.timed_events.proofs.PassedEvents.{own-passed}
use Rattle.timed_events.proofs.RankedEvents.{named-at, messages-none, least-moments}

-- two tests that agree on the events find the same reason
pub message_fault-same : (events : List Event) (r t : ℕ → Bool) (i k : ℕ) (m : Option ℕ)
    → ((s : ℕ) → s < length events → r s ≡ t s) → message_fault events r i k m ≡ message_fault events t i k m
message_fault-same events r t i k None h = refl
message_fault-same events r t i k (Some s) h = go (is_for events s (processor_at events i)) refl where
  rest : Bool → Option EventError
  rest v = cond v (Some (ReceivedBefore i k)) None

  go : (b : Bool) → is_for events s (processor_at events i) ≡ b
      → cond b (rest (r s)) (Some (WrongReceiver i k)) ≡ cond b (rest (t s)) (Some (WrongReceiver i k))
  go true e = ap rest (h s (is_for-inside events s (processor_at events i) e))
  go false e = refl

-- the first reason against the events is the first against one
pub faulty-event : (events : List Event) (i : ℕ) (e : EventError)
    → i < length events → first_of (message_faults events) i ≡ None → message_faults events i ≡ Some e → first_fault events ≡ Some e
unfolding first_fault
faulty-event events i e l h m = first_of-found (message_faults events) i (length events) e l h m

-- nothing is against any message of an event
fault-none : (events : List Event) (i k : ℕ) → first_fault events ≡ None → i < length events
    → k < length (messages_at events i)
    → message_fault events (was_received events i k) i k (slice_index_or (messages_at events i) k None) ≡ None
unfolding first_fault message_faults
fault-none events i k h l b = first_of-each
    (λ k. message_fault events (was_received events i k) i k (slice_index_or (messages_at events i) k None))
    (length (messages_at events i)) k (first_of-each (message_faults events) (length events) i h l) b

fault-for : (events : List Event) (r : ℕ → Bool) (i k s : ℕ)
    → message_fault events r i k (Some s) ≡ None → is_for events s (processor_at events i) ≡ true
fault-for events r i k s h = go (is_for events s (processor_at events i)) refl h where
  go : (u : Bool) → is_for events s (processor_at events i) ≡ u
      → cond u (cond (r s) (Some (ReceivedBefore i k)) None) (Some (WrongReceiver i k)) ≡ None
      → is_for events s (processor_at events i) ≡ true
  go true e t = e
  go false e t = absurd (cc)

-- each message is received by those to whom it was sent
pub received-by : (events : List Event) → first_fault events ≡ None → AreRightlyReceived events
received-by events h i s l t =
    let f = named-at (messages_at events i) s t.taken in
    fault-for events (was_received events i f.0) i f.0 s
    (subst (λ m. message_fault events (was_received events i f.0) i f.0 m ≡ None) f.2 (fault-none events i f.0 h l f.1))

-- a message that is received later than it was sent
passes-later : (events : List Event) (ticks : List ℕ) (r : ℕ → Bool) (i k : ℕ) (m : Option ℕ)
    → message_fault events r i k m ≡ None
    → ((s : ℕ) → m ≡ Some s → s < length events → slice_index ticks s < slice_index ticks i)
    → message_refusal events ticks r i k m ≡ None
passes-later events ticks r i k None h f = absurd (cc)
passes-later events ticks r i k (Some s) h f =
    let b = is_for-inside events s (processor_at events i) (fault-for events r i k s h) in
    go (is_for events s (processor_at events i)) (r s)
    (nat_lt (slice_index ticks s) (slice_index ticks i)) (lt-ltb (slice_index ticks s) (slice_index ticks i) (f s refl b)) h where
      go : (u v z : Bool) → z ≡ true
          → cond u (cond v (Some (ReceivedBefore i k)) None) (Some (WrongReceiver i k)) ≡ None
          → cond u (cond v (Some (ReceivedBefore i k)) (cond z None (Some (NotLater i k (late_hint events s i)))))
          (Some (WrongReceiver i k)) ≡ None
      go false v z t e = absurd (cc)
      go true true z t e = absurd (cc)
      go true false true t e = refl
      go true false false t e = absurd (cc)

-- no event is refused in the ticks to which they are spread
pub passes-spread : (events : List Event) (own ticks : List ℕ)
    → first_fault events ≡ None → AreOfProcessors events → AreLeast events own ticks → events_refusal events ticks ≡ None
passes-spread events own ticks p o h =
    own-passed events ticks
    (λ i l. messages-none events ticks i
    (λ k b. passes-later events ticks (was_received events i k) i k (slice_index_or (messages_at events i) k None)
    (fault-none events i k p l b)
    (λ s e inside. (h.each i l).after_sent s
    (record { inside = inside; taken = names-message (messages_at events i) k s b e }))))
    (least-moments events own ticks o h)
