-- The events that are left are those of a sound log, and they go by what is seen of all events.
use Rattle.std.proofs.Common.{ℕ, zero, suc, ◌≡◌, ◌∙◌, ◌≤◌, Bool, true, false, not, cond, List, [], ◌∷◌, length, map, Option, Some, None, refl, sym, ap, ap₂, subst, arith}
use Rattle.std.specs.Prelude.{All, ◌&&◌, ◌==◌, option_map, slice_get}
use Rattle.std.specs.List.{filter, list_any, range_with_len}
use Rattle.std.specs.Option.{option_map_or}
use Rattle.std.proofs.lemmas.List.{length-map}
use Rattle.std.proofs.lemmas.List.Elements.{All-cons, All-nil}
use Rattle.timed_events.specs.declared.events.Event.{Event}
use Rattle.timed_events.specs.declared.events.EventAct.{EventAct}
use Rattle.timed_events.specs.declared.events.EventAct.TheVariants as act
use Rattle.timed_events.specs.Checks.{AreMeant, AreOfProcessors, is_send, sends_at}
use Rattle.timed_events.proofs.SpreadTraces.{meant-processors}
use Rattle.event_log.specs.declared.logs.NamedEvents.{NamedEvents}
use Rattle.event_log.specs.declared.reading.TheConstants.{MAX_EVENTS}
use Rattle.event_log.specs.Events.{Seen, SeenAct, Sends, Receives, seen, seen_act}
use Rattle.event_log.specs.TakenEvents.{AreLeftBy}
use Rattle.event_log.specs.Logs.{seen_log}
use Rattle.event_log.specs.LostSends.{AreLeft, is_lost, left_act, left_before, left_event, left_places, new_places, renumbered_at}
use Rattle.event_log.specs.SoundLogs.{IsSound, IsWithin, SendsWithin}
use Rattle.event_log.proofs.LostSends.{left-few}
use Rattle.event_log.proofs.MeantEvents.{are-meant, within-at}
use Rattle.event_log.proofs.SeenEvents.{hops-same, lengths}
use Rattle.event_log.proofs.UnmadeLogs.{few-events}

-- one for each place
pub left-long : (events left : List Event) (places : List ℕ) → AreLeft events left places → length left ≡ length places
left-long events left places h = sym (length-map left (λ e. Some (seen e)))
    ∙ ap (λ (os : List (Option Seen)). length os) h.each ∙ length-map places (renumbered_at events (new_places events))

-- what is left sends within as many nodes
sends-left : (n : ℕ) (places : List ℕ) (a : SeenAct) → SendsWithin n a → SendsWithin n (left_act places a)
sends-left n places (Sends to) h = h
sends-left n places (Receives messages) h = h

one-within : (n : ℕ) (events : List Event) (places : List ℕ) (p : ℕ) (e : Event) (o : Option Event)
    → All (IsWithin n) (map seen events) → slice_get events p ≡ o
    → Some (seen e) ≡ option_map (λ x. left_event places (seen x)) o → IsWithin n (seen e)
one-within n events places p e None h at same = absurd (cc same)
one-within n events places p e (Some x) h at same =
    let is : left_event places (seen x) ≡ seen e = cc same in
    let within = within-at n events p x h at in
    subst (λ (s : Seen). IsWithin n s) is (within.0, sends-left n places (seen_act x.act) within.1)

pub within-left : (n : ℕ) (events : List Event) (new : List ℕ) (left : List Event) (places : List ℕ)
    → All (IsWithin n) (map seen events) → map (λ e. Some (seen e)) left ≡ map (renumbered_at events new) places
    → All (IsWithin n) (map seen left)
within-left n events new [] places h same = All-nil (IsWithin n)
within-left n events new (e ∷ es) [] h same = absurd (cc same)
within-left n events new (e ∷ es) (p ∷ ps) h same =
    let head : Some (seen e) ≡ renumbered_at events new p = cc same in
    let tail : map (λ x. Some (seen x)) es ≡ map (renumbered_at events new) ps = cc same in
    All-cons (IsWithin n) (seen e) (map seen es) (one-within n events new p e (slice_get events p) h refl head)
    (within-left n events new es ps h tail)

module _ (log : NamedEvents) (sound : IsSound (seen_log log))
    (left : List Event) (places : List ℕ) (are : AreLeft log.events.items left places) where
  pub meant-left : AreMeant left (length log.nodes)
  meant-left = are-meant (length log.nodes) left
      (within-left (length log.nodes) log.events.items (new_places log.events.items) left places sound.within are.each)

  pub processors-left : AreOfProcessors left
  processors-left = meant-processors (length log.nodes) left sound.few_nodes meant-left

  pub few-left : length left ≤ MAX_EVENTS
  few-left =
      let long = left-long log.events.items left places are in
      let places_few = ap (λ (xs : List ℕ). length xs) are.places_are in
      let few = left-few log.events.items (length log.events.items) in
      let all = few-events log sound in
      omega (arith, long, places_few, few, all)

-- events that are seen as the same have the same lost sends
pub seen_send : SeenAct → Bool
seen_send (Sends to) = true
seen_send (Receives messages) = false

send-seen : (a : EventAct) → is_send a ≡ seen_send (seen_act a)
unfolding seen_send
send-seen (act.Send to) = refl
send-seen (act.Receive messages) = refl

pub sends-seen : (events : List Event) (s : ℕ) → sends_at events s
    ≡ option_map_or (λ (v : Seen). seen_send v.act) (slice_get (map seen events) s) false
sends-seen [] s = refl
sends-seen (e ∷ es) zero = send-seen e.act
sends-seen (e ∷ es) (suc s) = sends-seen es s

seen-at : (f : Seen → Seen) (events : List Event) (p : ℕ)
    → option_map (λ e. f (seen e)) (slice_get events p) ≡ option_map f (slice_get (map seen events) p)
seen-at f [] p = refl
seen-at f (e ∷ es) zero = refl
seen-at f (e ∷ es) (suc p) = seen-at f es p

filters-same : (f g : ℕ → Bool) → ((s : ℕ) → f s ≡ g s) → (xs : List ℕ) → filter f xs ≡ filter g xs
filters-same f g h [] = refl
filters-same f g h (x ∷ xs) = ap₂ (λ (t : Bool) (ys : List ℕ). cond t (x ∷ ys) ys) (h x) (filters-same f g h xs)

pub maps-same : {Y : Type 0} (f g : ℕ → Y) → ((s : ℕ) → f s ≡ g s) → (xs : List ℕ) → map f xs ≡ map g xs
maps-same f g h [] = refl
maps-same f g h (x ∷ xs) = ap₂ (λ y ys. y ∷ ys) (h x) (maps-same f g h xs)

pub somes-same : (xs ys : List Event) → map (λ e. Some (seen e)) xs ≡ map (λ e. Some (seen e)) ys → map seen xs ≡ map seen ys
somes-same [] [] h = refl
somes-same [] (y ∷ ys) h = absurd (cc h)
somes-same (x ∷ xs) [] h = absurd (cc h)
somes-same (x ∷ xs) (y ∷ ys) h =
    let head : seen x ≡ seen y = cc h in
    let tail : map (λ e. Some (seen e)) xs ≡ map (λ e. Some (seen e)) ys = cc h in
    ap₂ (λ (s : Seen) (ss : List Seen). s ∷ ss) head (somes-same xs ys tail)

module _ (xs ys : List Event) (same : map seen xs ≡ map seen ys) where
  lost-same : (s : ℕ) → is_lost xs s ≡ is_lost ys s
  lost-same s = ap₂ (λ (t u : Bool). t && not u) (sends-seen xs s ∙ ap (λ (ss : List Seen). option_map_or (λ (v : Seen). seen_send v.act)
      (slice_get ss s) false) same ∙ sym (sends-seen ys s)) (ap (list_any (λ hop. hop.message == s)) (hops-same xs ys same))

  before-same : (s : ℕ) → left_before xs s ≡ left_before ys s
  unfolding left_before
  before-same s = filters-same (λ p. not (is_lost xs p)) (λ p. not (is_lost ys p)) (λ p. ap not (lost-same p)) (range_with_len 0 s)

  pub places-same : left_places xs ≡ left_places ys
  places-same = before-same (length xs) ∙ ap (left_before ys) (lengths xs ys same)

  new-same : new_places xs ≡ new_places ys
  unfolding new_places
  new-same = maps-same (λ s. length (left_before xs s)) (λ s. length (left_before ys s)) (λ s. ap (λ (ps : List ℕ). length ps) (before-same
      s)) (range_with_len 0 (length xs)) ∙ ap (λ (n : ℕ). map (λ s. length (left_before ys s)) (range_with_len 0 n)) (lengths xs ys same)

  at-same : (new : List ℕ) (p : ℕ) → renumbered_at xs new p ≡ renumbered_at ys new p
  at-same new p = seen-at (left_event new) xs p ∙ ap (λ (ss : List Seen). option_map (left_event new) (slice_get ss p)) same
      ∙ sym (seen-at (left_event new) ys p)

  each-same : (left other : List Event) (p q : List ℕ)
      → AreLeft xs left p → AreLeft ys other q → map (λ e. Some (seen e)) left ≡ map (λ e. Some (seen e)) other
  each-same left other p q s t =
      s.each ∙ maps-same (renumbered_at xs (new_places xs)) (renumbered_at ys (new_places xs)) (at-same (new_places xs)) p
      ∙ ap₂ (λ (new ps : List ℕ). map (renumbered_at ys new) ps) new-same (s.places_are ∙ places-same ∙ sym t.places_are) ∙ sym t.each

  -- so the same are left of them, at the same places
  pub left-once : (drop : Bool) (left other : List Event) (p q : Option (List ℕ))
      → AreLeftBy drop xs left p → AreLeftBy drop ys other q → (p ≡ q) × (map seen other ≡ map seen left)
  left-once false left other p q s t = (s.1 ∙ sym t.1, ap (map seen) t.0 ∙ sym same ∙ sym (ap (map seen) s.0))
  left-once true left other None q s t = absurd s
  left-once true left other (Some p) None s t = absurd t
  left-once true left other (Some p) (Some q) s t = (
    ap (λ (ps : List ℕ). Some ps) (s.places_are ∙ places-same ∙ sym t.places_are),
    sym (somes-same left other (each-same left other p q s t)),
  )
