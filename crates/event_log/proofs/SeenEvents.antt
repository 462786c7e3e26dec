-- Events that a contract sees as the same make the same trace, moved in the same way.
use Rattle.std.proofs.Common.{ℕ, zero, suc, ◌≡◌, ◌<◌, ◌∙◌, ◌⊎◌, inl, inr, Bool, true, false, cond, IsTrue, List, []}
use Rattle.std.proofs.Common.{◌∷◌, ◌++◌, length, map, take, max, Option, Some, None, refl, sym, ap, ap₂, subst, ℤ, ◌-ℤ◌}
use Rattle.std.specs.Prelude.{◌+◌, ◌/◌, pos, int_lt, nat_lt, fold, unwrap_or, slice_get, slice_index, slice_index_or, option_map, if◌then◌else◌, ◌||◌, ◌&&◌, not, ◌==◌}
use Rattle.std.specs.Int.{int_min, int_max}
use Rattle.std.specs.Int.RustNames.{unsigned_abs}
use Rattle.std.specs.List.{AllZip, filter, flat_map, list_any, range_with_len}
use Rattle.std.specs.List.Sorted.{IsPermutation}
use Rattle.std.specs.Option.{option_map_or, option_or}
use Rattle.std.proofs.lemmas.List.{length-map}
use Rattle.std.proofs.lemmas.Option.{slice_get-map}
use Rattle.step_trace.specs.declared.traces.TheConstants.{MAX_TICKS}
use Rattle.step_trace.specs.declared.steps.Act.{Act}
use Rattle.step_trace.specs.declared.steps.Act.TheVariants as step_act
use Rattle.step_trace.specs.declared.steps.Step.{Step}
use Rattle.step_trace.specs.Traces.{Recorded}
use Rattle.timed_events.specs.declared.cause_cycles.Hop.{Hop}
use Rattle.timed_events.specs.declared.events.Event.{Event}
use Rattle.timed_events.specs.declared.events.EventAct.{EventAct}
use Rattle.timed_events.specs.declared.events.EventAct.TheVariants as act
use Rattle.timed_events.specs.declared.events.EventError.{EventError}
use Rattle.timed_events.specs.declared.events.EventError.TheVariants.{UntilTooEarly, TooManyTicks, WrongReceiver, ReceivedBefore, NotLater, SecondEvent}
use Rattle.timed_events.specs.declared.events.Hint.{Hint}
use Rattle.timed_events.specs.declared.events.Hint.TheVariants.{ShorterTick, Spread}
use Rattle.timed_events.specs.declared.events.Clock.{Clock}
use Rattle.timed_events.specs.declared.lateness.LateMessage.{LateMessage}
use Rattle.timed_events.specs.declared.lateness.Lateness.{Lateness}
use Rattle.timed_events.specs.declared.spread_traces.TimedTrace.{TimedTrace}
use Rattle.timed_events.specs.Firsts.{first_of}
use Rattle.timed_events.specs.Checks.{processor_at, messages_at, time_at, is_for, sends_to, received_in, is_message}
use Rattle.timed_events.specs.Checks.{received_before, was_received, late_hint, message_fault, message_faults}
use Rattle.timed_events.specs.Checks.{first_fault, message_refusal, messages_refusal, moment_of, moment_at, earlier_at}
use Rattle.timed_events.specs.Checks.{apart_hint, second_refusal, event_refusal, events_refusal}
use Rattle.timed_events.specs.Times.{first_time, least_time, greatest_time, time_tick, time_ticks, last_tick, times_refusal}
use Rattle.timed_events.specs.Orders.{IsOrder}
use Rattle.timed_events.specs.TimedTraces.{IsActOf, IsStepAt, IsTraceOf, AreIdsOf}
use Rattle.timed_events.specs.Causes.{is_earlier, IsOwnBefore, IsSentTo, IsCause, IsCausalPart, IsCausalOrder}
use Rattle.timed_events.specs.Lateness.{is_late, late_message, lateness_among, lateness_of, worse}
use Rattle.timed_events.specs.Received.{hop_in, hops_at, hops_of}
use Rattle.timed_events.specs.Spreads.{IsSpreadAt, AreLeast, AreTicks, last_of, moved_of, IsAfterTimes, HavePassed, IsTimed}
use Rattle.timed_events.proofs.IdleEvents.{any-same}
use Rattle.event_log.specs.Events.{Seen, SeenAct, Sends, Receives, seen, seen_act}

-- what is asked of an event, asked of what is seen of it
received_by : SeenAct → List (Option ℕ)
received_by (Sends to) = []
received_by (Receives messages) = messages

sent_by : SeenAct → ℕ → Bool
sent_by (Sends to) p = to == p
sent_by (Receives messages) p = false

received-seen : (a : EventAct) → received_in a ≡ received_by (seen_act a)
unfolding received_by
received-seen (act.Send to) = refl
received-seen (act.Receive messages) = refl

sent-seen : (a : EventAct) (p : ℕ) → sends_to a p ≡ sent_by (seen_act a) p
unfolding sent_by
sent-seen (act.Send to) p = refl
sent-seen (act.Receive messages) p = refl

look-seen : {X : Type 0} (f : Event → X) (g : Seen → X) → ((e : Event) → f e ≡ g (seen e))
    → (xs : List Event) (i : ℕ) (d : X)
    → option_map_or f (slice_get xs i) d ≡ option_map_or g (slice_get (map seen xs) i) d
look-seen f g h [] i d = refl
look-seen f g h (x ∷ xs) zero d = h x
look-seen f g h (x ∷ xs) (suc i) d = look-seen f g h xs i d

first_seen : List Seen → ℤ
first_seen [] = pos 0
first_seen (s ∷ ss) = s.time

first-seen : (xs : List Event) → first_time xs ≡ first_seen (map seen xs)
unfolding first_seen
first-seen [] = refl
first-seen (x ∷ xs) = refl

fold-seen : (f : ℤ → ℤ → ℤ) (a : ℤ) (xs : List Event) → fold (λ x e. f x e.time) a xs ≡ fold (λ x s. f x s.time) a (map seen xs)
fold-seen f a [] = refl
fold-seen f a (x ∷ xs) = fold-seen f (f a x.time) xs

map-seen : (f : ℤ → ℕ) (xs : List Event) → map (λ e. f e.time) xs ≡ map (λ s. f s.time) (map seen xs)
map-seen f [] = refl
map-seen f (x ∷ xs) = ap (λ ns. f x.time ∷ ns) (map-seen f xs)

-- the first of reasons that are the same
first-same : {X : Type 0} (f g : ℕ → Option X) → ((i : ℕ) → f i ≡ g i) → (n : ℕ) → first_of f n ≡ first_of g n
first-same f g h zero = refl
first-same f g h (suc n) = ap₂ (λ a b. option_or a b) (first-same f g h n) (h n)

each-hops : (f g : ℕ → List Hop) → ((i : ℕ) → f i ≡ g i) → (xs : List ℕ) → flat_map f xs ≡ flat_map g xs
each-hops f g h [] = refl
each-hops f g h (x ∷ xs) = ap₂ (λ (a b : List Hop). a ++ b) (h x) (each-hops f g h xs)

-- an event that is seen at a place of the one list is at that of the other
found-by : (o : Option Event) (s : Seen) → option_map seen o ≡ Some s → (e : Event) × (o ≡ Some e) × (seen e ≡ s)
found-by None s h = absurd (cc)
found-by (Some e) s h = (e, refl, cc)

does-same : (numbers : List ℕ) (a b : EventAct) (does : Act) → seen_act a ≡ seen_act b → IsActOf numbers a does → IsActOf numbers b does
does-same numbers (act.Send to) (act.Send other) does e h = let same : to ≡ other = cc in h ∙ ap step_act.Send same
does-same numbers (act.Send to) (act.Receive messages) does e h = absurd (cc)
does-same numbers (act.Receive messages) (act.Send to) does e h = absurd (cc)
does-same numbers (act.Receive messages) (act.Receive others) does e h =
    let same : messages ≡ others = cc in (h.0, h.1, subst (λ ms. AreIdsOf numbers ms h.0) same h.2)

module _ (xs ys : List Event) (same : map seen xs ≡ map seen ys) where
  looks-same : {X : Type 0} (f : Event → X) (g : Seen → X)
      → ((e : Event) → f e ≡ g (seen e)) → (i : ℕ) (d : X) → option_map_or f (slice_get xs i) d ≡ option_map_or f (slice_get ys i) d
  looks-same f g h i d = look-seen f g h xs i d ∙ ap (λ ss. option_map_or g (slice_get ss i) d) same ∙ sym (look-seen f g h ys i d)

  pub lengths : length xs ≡ length ys
  lengths = sym (length-map xs seen) ∙ ap (λ ss. length ss) same ∙ length-map ys seen

  pub processors : (i : ℕ) → processor_at xs i ≡ processor_at ys i
  processors i = looks-same (λ e. e.processor) (λ s. s.processor) (λ e. refl) i 0

  times : (i : ℕ) → time_at xs i ≡ time_at ys i
  times i = looks-same (λ e. e.time) (λ s. s.time) (λ e. refl) i (pos 0)

  pub messages : (i : ℕ) → messages_at xs i ≡ messages_at ys i
  messages i = looks-same (λ e. received_in e.act) (λ s. received_by s.act) (λ e. received-seen e.act) i []

  receivers : (s p : ℕ) → is_for xs s p ≡ is_for ys s p
  receivers s p = looks-same (λ e. sends_to e.act p) (λ v. sent_by v.act p) (λ e. sent-seen e.act p) s false

  least : least_time xs ≡ least_time ys
  unfolding least_time
  least = fold-seen int_min (first_time xs) xs ∙ ap₂ (λ (a : ℤ) (ss : List Seen). fold (λ x s. int_min x s.time) a ss) firsts same
      ∙ sym (fold-seen int_min (first_time ys) ys) where
        firsts : first_time xs ≡ first_time ys
        firsts = first-seen xs ∙ ap first_seen same ∙ sym (first-seen ys)

  greatest : greatest_time xs ≡ greatest_time ys
  unfolding greatest_time
  greatest = fold-seen int_max (first_time xs) xs ∙ ap₂ (λ (a : ℤ) (ss : List Seen). fold (λ x s. int_max x s.time) a ss) firsts same
      ∙ sym (fold-seen int_max (first_time ys) ys) where
        firsts : first_time xs ≡ first_time ys
        firsts = first-seen xs ∙ ap first_seen same ∙ sym (first-seen ys)

  pub own-ticks : (clock : Clock) → time_ticks xs clock ≡ time_ticks ys clock
  own-ticks clock =
      map-seen (time_tick xs clock) xs
      ∙ ap₂ (λ (l : ℤ) (ss : List Seen). map (λ s. unsigned_abs (s.time -ℤ l) / clock.width + 1) ss) least same
      ∙ sym (map-seen (time_tick ys clock) ys)

  last-ticks : (clock : Clock) → last_tick xs clock ≡ last_tick ys clock
  last-ticks clock = ap₂ (λ (l g : ℤ). unsigned_abs (unwrap_or clock.until g -ℤ l) / clock.width + 1) least greatest

  times-refused : (clock : Clock) → times_refusal xs clock ≡ times_refusal ys clock
  times-refused clock = ap₂ (λ (g : ℤ) (last : ℕ). if int_lt (unwrap_or clock.until g) g then Some UntilTooEarly
      else if nat_lt MAX_TICKS last then Some TooManyTicks else None) greatest (last-ticks clock)

  pub lasts : (clock : Clock) (ticks : List ℕ) → last_of xs clock ticks ≡ last_of ys clock ticks
  lasts clock ticks = ap (λ last. fold max last ticks) (last-ticks clock)

  -- the tests
  received-same : (i s : ℕ) → received_before xs i s ≡ received_before ys i s
  unfolding received_before
  received-same i s = any-same (λ j. list_any (is_message s) (messages_at xs j))
      (λ j. list_any (is_message s) (messages_at ys j)) i (λ j l. ap (list_any (is_message s)) (messages j))

  was-same : (i k s : ℕ) → was_received xs i k s ≡ was_received ys i k s
  was-same i k s = ap₂ (λ (a : Bool) (ms : List (Option ℕ)). a || list_any (is_message s) (take k ms)) (received-same i s) (messages i)

  late-same : (s i : ℕ) → late_hint xs s i ≡ late_hint ys s i
  late-same s i = ap₂ (λ (x y : ℤ). if int_lt x y then Some ShorterTick else if not (processor_at xs s == processor_at xs i)
      then Some Spread else if not (int_lt y x) && nat_lt s i then Some Spread else None) (times s) (times i)
      ∙ ap₂ (λ (p q : ℕ). if int_lt (time_at ys s) (time_at ys i) then Some ShorterTick else if not (p == q) then Some
      Spread else if not (int_lt (time_at ys i) (time_at ys s)) && nat_lt s i then Some Spread else None) (processors s) (processors i)

  message-same : (ticks : List ℕ) (i k : ℕ) (m : Option ℕ)
      → message_refusal xs ticks (was_received xs i k) i k m ≡ message_refusal ys ticks (was_received ys i k) i k m
  message-same ticks i k None = refl
  message-same ticks i k (Some s) = ap₂ (λ (u v : Bool). cond u (cond v (Some (ReceivedBefore i k)) (cond (nat_lt (slice_index_or ticks s 0)
      (slice_index_or ticks i 0)) None (Some (NotLater i k (late_hint xs s i))))) (Some (WrongReceiver i k)))
      (receivers s (processor_at xs i) ∙ ap (is_for ys s) (processors i)) (was-same i k s)
      ∙ ap (λ (h : Option Hint). cond (is_for ys s (processor_at ys i)) (cond (was_received ys i k s) (Some (ReceivedBefore i k))
      (cond (nat_lt (slice_index_or ticks s 0) (slice_index_or ticks i 0)) None (Some (NotLater i k h))))
      (Some (WrongReceiver i k))) (late-same s i)

  messages-refused : (ticks : List ℕ) (i : ℕ) → messages_refusal xs ticks i ≡ messages_refusal ys ticks i
  unfolding messages_refusal
  messages-refused ticks i = first-same _ (λ k. message_refusal ys ticks (was_received ys i k) i k
      (slice_index_or (messages_at ys i) k None)) (λ k. message-same ticks i k (slice_index_or (messages_at xs i) k None)
      ∙ ap (λ ms. message_refusal ys ticks (was_received ys i k) i k (slice_index_or ms k None)) (messages i)) (length (messages_at xs i))
      ∙ ap (λ ms. first_of (λ k. message_refusal ys ticks (was_received ys i k) i k (slice_index_or (messages_at ys i) k None)) (length ms))
      (messages i)

  fault-same : (i k : ℕ) (m : Option ℕ) → message_fault xs (was_received xs i k) i k m ≡ message_fault ys (was_received ys i k) i k m
  fault-same i k None = refl
  fault-same i k (Some s) =
      ap₂ (λ (u v : Bool). cond u (cond v (Some (ReceivedBefore i k)) None) (Some (WrongReceiver i k)))
      (receivers s (processor_at xs i) ∙ ap (is_for ys s) (processors i)) (was-same i k s)

  faults-same : (i : ℕ) → message_faults xs i ≡ message_faults ys i
  unfolding message_faults
  faults-same i = first-same _ (λ k. message_fault ys (was_received ys i k) i k (slice_index_or (messages_at ys i) k None))
      (λ k. fault-same i k (slice_index_or (messages_at xs i) k None)
      ∙ ap (λ ms. message_fault ys (was_received ys i k) i k (slice_index_or ms k None)) (messages i)) (length (messages_at xs i)) ∙ ap
      (λ ms. first_of (λ k. message_fault ys (was_received ys i k) i k (slice_index_or (messages_at ys i) k None)) (length ms)) (messages i)

  first-faults : first_fault xs ≡ first_fault ys
  unfolding first_fault
  first-faults = first-same (message_faults xs) (message_faults ys) faults-same (length xs) ∙ ap (first_of (message_faults ys)) lengths

  moments : (ticks : List ℕ) (i : ℕ) → moment_at xs ticks i ≡ moment_at ys ticks i
  moments ticks i = ap (moment_of (slice_index_or ticks i 0)) (processors i)

  earlier-same : (ticks : List ℕ) (i m : ℕ) → earlier_at xs ticks i m ≡ earlier_at ys ticks i m
  unfolding earlier_at
  earlier-same ticks i m =
      first-same (λ j. if moment_at xs ticks j == m then Some j else None) (λ j. if moment_at ys ticks j == m then Some j else None)
      (λ j. ap (λ n. if n == m then Some j else None) (moments ticks j)) i

  apart-same : (j i : ℕ) → apart_hint xs j i ≡ apart_hint ys j i
  apart-same j i = ap₂ (λ (x y : ℤ). if int_lt x y || int_lt y x then Some ShorterTick else Some Spread) (times j) (times i)

  second-same : (ticks : List ℕ) (i : ℕ) → second_refusal xs ticks i ≡ second_refusal ys ticks i
  unfolding second_refusal
  second-same ticks i = hints (earlier_at xs ticks i (moment_at xs ticks i))
      ∙ ap (option_map (λ j. SecondEvent i (slice_index_or ticks i 0) (apart_hint ys j i))) earliest where
        earliest : earlier_at xs ticks i (moment_at xs ticks i) ≡ earlier_at ys ticks i (moment_at ys ticks i)
        earliest = earlier-same ticks i (moment_at xs ticks i) ∙ ap (earlier_at ys ticks i) (moments ticks i)

        hints : (o : Option ℕ) → option_map (λ j. SecondEvent i (slice_index_or ticks i 0) (apart_hint xs j i)) o
            ≡ option_map (λ j. SecondEvent i (slice_index_or ticks i 0) (apart_hint ys j i)) o
        hints None = refl
        hints (Some j) = ap (λ h. Some (SecondEvent i (slice_index_or ticks i 0) h)) (apart-same j i)

  refused : (ticks : List ℕ) → events_refusal xs ticks ≡ events_refusal ys ticks
  unfolding events_refusal
  refused ticks = first-same (event_refusal xs ticks) (event_refusal ys ticks) (λ i. ap₂
      (λ a b. option_or a b) (messages-refused ticks i) (second-same ticks i)) (length xs) ∙ ap (first_of (event_refusal ys ticks)) lengths

  pub earlier : (j i : ℕ) → is_earlier xs j i ≡ is_earlier ys j i
  earlier j i = ap₂ (λ (x y : ℤ). int_lt x y || (not (int_lt y x) && nat_lt j i)) (times j) (times i)

  -- the messages that are late
  hops-at : (i : ℕ) → hops_at xs i ≡ hops_at ys i
  hops-at i = ap₂ (λ (n : ℕ) (ms : List (Option ℕ)). flat_map (hop_in n i) ms) lengths (messages i)

  hops : hops_of xs ≡ hops_of ys
  hops = each-hops (hops_at xs) (hops_at ys) hops-at (range_with_len 0 (length xs))
      ∙ ap (λ n. flat_map (hops_at ys) (range_with_len 0 n)) lengths

  late : (hop : Hop) → is_late xs hop ≡ is_late ys hop
  late hop = ap₂ (λ (s r : ℤ). not (int_lt s r)) (times hop.message) (times hop.event)

  late-message : (hop : Hop) → late_message xs hop ≡ late_message ys hop
  late-message hop = ap₂ (λ (s r : ℤ). let m : LateMessage =
      record { event = hop.event; message = hop.message; by = unsigned_abs (s -ℤ r) } in m) (times hop.message) (times hop.event)

  lates : (hs : List Hop) → filter (is_late xs) hs ≡ filter (is_late ys) hs
  lates [] = refl
  lates (h ∷ hs) = ap₂ (λ (t : Bool) (ms : List Hop). cond t (h ∷ ms) ms) (late h) (lates hs)

  late-messages : (hs : List Hop) → map (late_message xs) hs ≡ map (late_message ys) hs
  late-messages [] = refl
  late-messages (h ∷ hs) = ap₂ (λ (m : LateMessage) (ms : List LateMessage). m ∷ ms) (late-message h) (late-messages hs)

  lateness-as-seen : lateness_of xs ≡ lateness_of ys
  lateness-as-seen = ap (lateness_among xs) hops ∙ ap₂ (λ (hs : List Hop) (ms : List LateMessage). let l : Lateness =
      record { messages = length hs; worst = fold (λ worst late. Some (worse worst late)) None ms } in l)
      (lates (hops_of ys)) (late-messages (filter (is_late xs) (hops_of ys)) ∙ ap (map (late_message ys)) (lates (hops_of ys)))

  -- the trace
  orders : (ticks order : List ℕ) → IsOrder xs ticks order → IsOrder ys ticks order
  orders ticks order o = record { places = subst (λ n. IsPermutation (range_with_len 0 n) order) lengths o.places; rising = rising } where
    rising : (j k : ℕ) → j < k → k < length order → moment_at ys ticks (slice_index order j) < moment_at ys ticks (slice_index order k)
    rising j k b l =
        subst (λ n. n < moment_at ys ticks (slice_index order k)) (moments ticks (slice_index order j))
        (subst (λ n. moment_at xs ticks (slice_index order j) < n) (moments ticks (slice_index order k)) (o.rising j k b l))

  step-same : (numbers : List ℕ) (place : ℕ) (step : Step) → IsStepAt xs numbers place step → IsStepAt ys numbers place step
  step-same numbers place step s =
      let at = sym (slice_get-map seen ys place) ∙ ap (λ ss. slice_get ss place) (sym same)
      ∙ slice_get-map seen xs place ∙ ap (option_map seen) s.at in
      let f = found-by (slice_get ys place) (seen s.event) at in
      record {
        event = f.0;
        at = f.1;
        proc = s.proc ∙ ap (λ v. v.processor) (sym f.2);
        does = does-same numbers s.event.act f.0.act step.act (ap (λ v. v.act) (sym f.2)) s.does;
      }

  steps-same : (numbers places : List ℕ) (steps : List Step)
      → AllZip (IsStepAt xs numbers) places steps → AllZip (IsStepAt ys numbers) places steps
  steps-same numbers [] [] h = tt
  steps-same numbers [] (z ∷ zs) h = absurd h
  steps-same numbers (p ∷ ps) [] h = absurd h
  steps-same numbers (p ∷ ps) (z ∷ zs) h = (step-same numbers p z h.0, steps-same numbers ps zs h.1)

  pub traces : (n : ℕ) (ticks : List ℕ) (last : ℕ) (trace : Recorded) → IsTraceOf n xs ticks last trace → IsTraceOf n ys ticks last trace
  traces n ticks last trace t = record {
    order = t.order;
    numbers = t.numbers;
    ordered = orders ticks t.order t.ordered;
    numbered = t.numbered;
    has = record { config = t.has.config; steps = steps-same t.numbers t.order trace.steps t.has.steps; timed = t.has.timed };
    end = t.end;
  }

-- what is asked of two events, the other way round
own-before : (xs ys : List Event) → map seen xs ≡ map seen ys → (i j : ℕ) → IsOwnBefore xs i j → IsOwnBefore ys i j
own-before xs ys e i j h = record {
  inside = subst (λ n. j < n) (lengths xs ys e) h.inside;
  own = sym (processors xs ys e j) ∙ h.own ∙ processors xs ys e i;
  earlier = subst IsTrue (earlier xs ys e j i) h.earlier;
}

sent-to : (xs ys : List Event) → map seen xs ≡ map seen ys → (i j : ℕ) → IsSentTo xs i j → IsSentTo ys i j
sent-to xs ys e i j h = record {
  inside = subst (λ n. j < n) (lengths xs ys e) h.inside;
  taken = subst (λ ms. IsTrue (list_any (is_message j) ms)) (messages xs ys e i) h.taken;
}

cause : (xs ys : List Event) → map seen xs ≡ map seen ys → (i j : ℕ) → IsCause xs i j → IsCause ys i j
cause xs ys e i j (inl b) = inl (own-before xs ys e i j b)
cause xs ys e i j (inr b) = inr (sent-to xs ys e i j b)

causal-part : (xs ys : List Event) → map seen xs ≡ map seen ys → (part : List ℕ) → IsCausalPart xs part → IsCausalPart ys part
causal-part xs ys e part h = record {
  inside = λ k l. subst (λ n. slice_index part k < n) (lengths xs ys e) (h.inside k l);
  apart = h.apart;
  causes = λ k i l c. h.causes k i l (cause ys xs (sym e) (slice_index part k) i c);
}

causal-order : (xs ys : List Event) → map seen xs ≡ map seen ys → (order : List ℕ) → IsCausalOrder xs order → IsCausalOrder ys order
causal-order xs ys e order h = record {
  part = causal-part xs ys e order h.part;
  long = h.long ∙ lengths xs ys e;
  found = λ i l. h.found i (subst (λ n. i < n) (sym (lengths xs ys e)) l);
}

spread-at : (xs ys : List Event) → map seen xs ≡ map seen ys
    → (own ticks : List ℕ) (i : ℕ) → IsSpreadAt xs own ticks i → IsSpreadAt ys own ticks i
spread-at xs ys e own ticks i h = record {
  from = h.from;
  after_own = λ j b. h.after_own j (own-before ys xs (sym e) i j b);
  after_sent = λ j b. h.after_sent j (sent-to ys xs (sym e) i j b);
  least = go h.least;
} where
  go : (slice_index ticks i ≡ slice_index own i) ⊎ ((j : ℕ) × (IsOwnBefore xs i j ⊎ IsSentTo xs i j)
      × (slice_index ticks i ≡ slice_index ticks j + 1)) → (slice_index ticks i ≡ slice_index own i)
      ⊎ ((j : ℕ) × (IsOwnBefore ys i j ⊎ IsSentTo ys i j) × (slice_index ticks i ≡ slice_index ticks j + 1))
  go (inl s) = inl s
  go (inr w) = inr (w.0, cause xs ys e i w.0 w.1, w.2)

module _ (xs ys : List Event) (same : map seen xs ≡ map seen ys) where
  after-times : (times : Option EventError) → IsAfterTimes times xs None → IsAfterTimes times ys None
  after-times (Some reason) h = h
  after-times None h = (sym (first-faults xs ys same) ∙ h.0, (h.1.0, causal-order xs ys same h.1.0 h.1.1))

  pub passed : (spread : Bool) (clock : Clock) → HavePassed spread xs clock → HavePassed spread ys clock
  passed false clock h = sym (ap₂ (λ a b. option_or a b)
      (times-refused xs ys same clock) (refused xs ys same (time_ticks xs clock) ∙ ap (events_refusal ys) (own-ticks xs ys same clock))) ∙ h
  passed true clock h = subst (λ t. IsAfterTimes t ys None) (times-refused xs ys same clock) (after-times (times_refusal xs clock) h)

  least-ticks : (own ticks : List ℕ) → AreLeast xs own ticks → AreLeast ys own ticks
  least-ticks own ticks h = record {
    long = h.long ∙ lengths xs ys same;
    each = λ i l. spread-at xs ys same own ticks i (h.each i (subst (λ n. i < n) (sym (lengths xs ys same)) l));
  }

  pub ticks-same : (spread : Bool) (clock : Clock) (ticks : List ℕ) → AreTicks spread xs clock ticks → AreTicks spread ys clock ticks
  ticks-same false clock ticks h = h ∙ own-ticks xs ys same clock
  ticks-same true clock ticks h = subst (λ own. AreLeast ys own ticks)
      (own-ticks xs ys same clock) (least-ticks (time_ticks xs clock) ticks h)

  -- so events are timed by what is seen of them
  pub timed-as-seen : (spread : Bool) (n : ℕ) (clock : Clock) (timed : TimedTrace)
      → IsTimed spread n xs clock timed → IsTimed spread n ys clock timed
  timed-as-seen spread n clock timed t = record {
    passed = passed spread clock t.passed;
    ticks = t.ticks;
    are = ticks-same spread clock t.ticks t.are;
    trace = subst (λ last. IsTraceOf n ys t.ticks last timed.trace)
        (lasts xs ys same clock t.ticks) (traces xs ys same n t.ticks (last_of xs clock t.ticks) timed.trace t.trace);
    moved = t.moved ∙ ap (λ own. moved_of own t.ticks) (own-ticks xs ys same clock);
  }

-- and so are their late messages
pub lateness-same : (xs ys : List Event) → map seen xs ≡ map seen ys → lateness_of xs ≡ lateness_of ys
lateness-same xs ys same = lateness-as-seen xs ys same

-- and what is asked of each of them
pub hops-same : (xs ys : List Event) → map seen xs ≡ map seen ys → hops_of xs ≡ hops_of ys
hops-same xs ys same = hops xs ys same

pub processors-same : (xs ys : List Event) → map seen xs ≡ map seen ys → (i : ℕ) → processor_at xs i ≡ processor_at ys i
processors-same xs ys same = processors xs ys same

pub times-same : (xs ys : List Event) → map seen xs ≡ map seen ys → (i : ℕ) → time_at xs i ≡ time_at ys i
times-same xs ys same = times xs ys same
