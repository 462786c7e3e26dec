-- Events have one order by their times, and one list with merged receives.
use Rattle.std.proofs.Common.{ℕ, zero, suc, ◌≡◌, ◌∙◌, Bool, true, false, not, ◌&&◌, ◌||◌, List, [], ◌∷◌, length, map, Option, Some, None, refl, sym, ap, ap₂, subst}
use Rattle.std.specs.Prelude.{◌==◌, ◌++◌, option_map, slice_get, slice_index}
use Rattle.std.specs.List.{filter, flat_map, range_with_len}
use Rattle.std.specs.List.Sorted.{IsPermutation}
use Rattle.std.specs.Option.{option_map_or}
use Rattle.std.proofs.lemmas.List.Elements.{filter_agree}
use Rattle.timed_events.specs.declared.events.Clock.{Clock}
use Rattle.timed_events.specs.declared.events.Event.{Event}
use Rattle.timed_events.specs.declared.events.EventAct.{EventAct}
use Rattle.timed_events.specs.declared.events.EventAct.TheVariants as act
use Rattle.timed_events.specs.Causes.{IsTimeOrder}
use Rattle.timed_events.specs.Checks.{messages_at, sends_at}
use Rattle.timed_events.specs.Firsts.{any_below}
use Rattle.timed_events.specs.Times.{time_ticks}
use Rattle.timed_events.proofs.IdleEvents.{any-same}
use Rattle.event_log.specs.Events.{Seen, SeenAct, Sends, Receives, seen, seen_act}
use Rattle.event_log.specs.LostSends.{left_message}
use Rattle.merged_receives.specs.Merges.{is_joined, is_merged, is_part, is_receive, is_send_between, parts_of, receives_at, staying_before, staying_places}
use Rattle.merged_receives.proofs.OneMerge.{order-once}
use Rattle.event_log.specs.TakenEvents.{AreMergedBy, AreTaken, first_places, log_parts}
use Rattle.event_log.specs.Merges.{AreJoined, joined_at, joined_event, joined_messages, receiving}
use Rattle.event_log.proofs.JoinedEvents.{joined-is}
use Rattle.event_log.proofs.LeftEvents.{left-once, maps-same, seen_send, sends-seen, somes-same}
use Rattle.event_log.proofs.SeenEvents.{earlier, lengths, messages, own-ticks, processors}

-- what is seen of whether an event receives
seen_receive : SeenAct → Bool
seen_receive (Sends to) = false
seen_receive (Receives messages) = true

receive-seen : (a : EventAct) → is_receive a ≡ seen_receive (seen_act a)
unfolding seen_receive
receive-seen (act.Send to) = refl
receive-seen (act.Receive messages) = refl

receives-seen : (events : List Event) (s : ℕ) → receives_at events s
    ≡ option_map_or (λ (v : Seen). seen_receive v.act) (slice_get (map seen events) s) false
receives-seen [] s = refl
receives-seen (e ∷ es) zero = receive-seen e.act
receives-seen (e ∷ es) (suc s) = receives-seen es s

flat-same : (f g : ℕ → List (Option ℕ)) → ((i : ℕ) → f i ≡ g i) → (xs : List ℕ) → flat_map f xs ≡ flat_map g xs
flat-same f g h [] = refl
flat-same f g h (x ∷ xs) = ap₂ (λ (a b : List (Option ℕ)). a ++ b) (h x) (flat-same f g h xs)

lists-same : {Y : Type 0} (f g : List ℕ → Y) → ((s : List ℕ) → f s ≡ g s) → (xs : List (List ℕ)) → map f xs ≡ map g xs
lists-same f g h [] = refl
lists-same f g h (x ∷ xs) = ap₂ (λ y ys. y ∷ ys) (h x) (lists-same f g h xs)

joined-seen : (events : List Event) (new part : List ℕ) (xs : List Event) (p : ℕ)
    → option_map (joined_event events new part) (slice_get xs p)
    ≡ option_map (receiving (joined_messages events new part)) (slice_get (map seen xs) p)
joined-seen events new part [] p = refl
joined-seen events new part (e ∷ es) zero = ap (λ (s : Seen). Some s) (joined-is events new part e)
joined-seen events new part (e ∷ es) (suc p) = joined-seen events new part es p

module _ (xs ys : List Event) (same : map seen xs ≡ map seen ys) where
  sends-same : (s : ℕ) → sends_at xs s ≡ sends_at ys s
  sends-same s = sends-seen xs s ∙ ap (λ (ss : List Seen). option_map_or (λ (v : Seen). seen_send v.act) (slice_get ss s) false) same
      ∙ sym (sends-seen ys s)

  receives-same : (s : ℕ) → receives_at xs s ≡ receives_at ys s
  receives-same s = receives-seen xs s
      ∙ ap (λ (ss : List Seen). option_map_or (λ (v : Seen). seen_receive v.act) (slice_get ss s) false) same ∙ sym (receives-seen ys s)

  between-same : (j i s : ℕ) → is_send_between xs j i s ≡ is_send_between ys j i s
  unfolding is_send_between
  between-same j i s =
      ap₂ (λ (a b : Bool). a && b) (sends-same s)
      (ap₂ (λ (a b : Bool). a && b) (ap₂ (λ p q. p == q) (processors xs ys same s) (processors xs ys same i))
      (ap₂ (λ (a b : Bool). a && b) (earlier xs ys same j s) (earlier xs ys same s i)))

  joined-same : (ticks : List ℕ) (j i : ℕ) → is_joined xs ticks j i ≡ is_joined ys ticks j i
  unfolding is_joined
  joined-same ticks j i = ap₂ (λ (a b : Bool). a && b) (receives-same j) (ap₂ (λ (a b : Bool). a && b) (receives-same i)
      (ap₂ (λ (a b : Bool). a && b) (ap₂ (λ p q. p == q) (processors xs ys same j) (processors xs ys same i))
      (ap (λ (b : Bool). (slice_index ticks j == slice_index ticks i) && b) (ap₂ (λ (a b : Bool). a && not b) (earlier xs ys same j i)
      (any-same (is_send_between xs j i) (is_send_between ys j i) (length xs) (λ k l. between-same j i k)
      ∙ ap (any_below (is_send_between ys j i)) (lengths xs ys same))))))

  merged-same : (ticks : List ℕ) (i : ℕ) → is_merged xs ticks i ≡ is_merged ys ticks i
  unfolding is_merged
  merged-same ticks i = any-same (λ j. is_joined xs ticks j i) (λ j. is_joined ys ticks j i) (length xs) (λ j l. joined-same ticks j i)
      ∙ ap (any_below (λ j. is_joined ys ticks j i)) (lengths xs ys same)

  part-same : (ticks : List ℕ) (h i : ℕ) → is_part xs ticks h i ≡ is_part ys ticks h i
  unfolding is_part
  part-same ticks h i = ap (λ (b : Bool). (h == i) || b) (joined-same ticks h i)

  staying-same : (ticks : List ℕ) (s : ℕ) → staying_before xs ticks s ≡ staying_before ys ticks s
  unfolding staying_before
  staying-same ticks s = filter_agree (λ i. not (is_merged xs ticks i))
      (λ i. not (is_merged ys ticks i)) (λ i. ap not (merged-same ticks i)) (range_with_len 0 s)

  places-same : (ticks : List ℕ) → staying_places xs ticks ≡ staying_places ys ticks
  unfolding staying_places
  places-same ticks = maps-same (λ s. length (staying_before xs ticks s))
      (λ s. length (staying_before ys ticks s)) (λ s. ap (λ (ps : List ℕ). length ps) (staying-same ticks s)) (range_with_len 0 (length xs))
      ∙ ap (λ (n : ℕ). map (λ s. length (staying_before ys ticks s)) (range_with_len 0 n)) (lengths xs ys same)

  parts-same : (ticks order : List ℕ) → parts_of xs ticks order ≡ parts_of ys ticks order
  unfolding parts_of
  parts-same ticks order = maps-same (λ h. filter (is_part xs ticks h) order) (λ h. filter (is_part ys ticks h) order)
      (λ h. filter_agree (is_part xs ticks h) (is_part ys ticks h) (part-same ticks h) order) (staying_before xs ticks (length xs)) ∙ ap
      (map (λ h. filter (is_part ys ticks h) order)) (staying-same ticks (length xs) ∙ ap (staying_before ys ticks) (lengths xs ys same))

  joined-messages : (new part : List ℕ) → joined_messages xs new part ≡ joined_messages ys new part
  joined-messages new part = flat-same (λ p. map (left_message new) (messages_at xs p))
      (λ p. map (left_message new) (messages_at ys p)) (λ p. ap (map (left_message new)) (messages xs ys same p)) part

  at-same : (new part : List ℕ) → joined_at xs new part ≡ joined_at ys new part
  at-same new part = joined-seen xs new part xs (slice_index part 0) ∙ ap₂ (λ (ms : List (Option ℕ)) (ss : List Seen). option_map (receiving
      ms) (slice_get ss (slice_index part 0))) (joined-messages new part) same ∙ sym (joined-seen ys new part ys (slice_index part 0))

  order-same : (order : List ℕ) → IsTimeOrder xs order → IsTimeOrder ys order
  order-same order o = record {
    places = subst (λ n. IsPermutation (range_with_len 0 n) order) (lengths xs ys same) o.places;
    rising = λ j k b l. subst (λ t. t ≡ true) (earlier xs ys same (slice_index order j) (slice_index order k)) (o.rising j k b l);
  }

  -- events that are seen as the same have the same parts, and are seen as the same when they are merged
  pub merged-once : (clock : Clock) (a b : List Event) (p q : List (List ℕ))
      → AreJoined xs clock a p → AreJoined ys clock b q → (p ≡ q) × (map seen b ≡ map seen a)
  merged-once clock a b p q s t = (parts, sym (somes-same a b each)) where
    ticks : time_ticks xs clock ≡ time_ticks ys clock
    ticks = own-ticks xs ys same clock

    order : s.are.order ≡ t.are.order
    order = order-once ys s.are.order t.are.order (order-same s.are.order s.are.in_time) t.are.in_time

    parts : p ≡ q
    parts = s.are.parts_are ∙ parts-same (time_ticks xs clock) s.are.order
        ∙ ap₂ (λ (ns os : List ℕ). parts_of ys ns os) ticks order ∙ sym t.are.parts_are

    new : s.places ≡ t.places
    new = s.are.places_are ∙ places-same (time_ticks xs clock) ∙ ap (staying_places ys) ticks ∙ sym t.are.places_are

    each : map (λ e. Some (seen e)) a ≡ map (λ e. Some (seen e)) b
    each =
        s.each ∙ lists-same (joined_at xs s.places) (joined_at ys s.places) (at-same s.places) p
        ∙ ap₂ (λ (ns : List ℕ) (ps : List (List ℕ)). map (joined_at ys ns) ps) new parts ∙ sym t.each

-- so events that are seen as the same have the same events left, at the same places and of the same parts
pub taken-once : (xs ys : List Event) → map seen xs ≡ map seen ys
    → (drop merge : Bool) (clock : Clock) (left other : List Event) (p q : Option (List ℕ)) (a b : Option (List (List ℕ)))
    → AreTaken drop merge xs clock left p a → AreTaken drop merge ys clock other q b → (p ≡ q) × (map seen other ≡ map seen left)
taken-once xs ys same drop merge clock left other p q a b s t =
    (s.at ∙ ap₂ (λ (at : Option (List ℕ)) (ps : Option (List (List ℕ))). first_places at ps) kept.0 parts ∙ sym t.at, own.1) where
      kept : (s.kept_at ≡ t.kept_at) × (map seen t.kept ≡ map seen s.kept)
      kept = left-once xs ys same drop s.kept t.kept s.kept_at t.kept_at s.are_kept t.are_kept

      both : (m : Bool) (c d : Option (List (List ℕ)))
          → AreMergedBy m s.kept clock left c → AreMergedBy m t.kept clock other d → (c ≡ d) × (map seen other ≡ map seen left)
      both false c d k l = (k.1 ∙ sym l.1, ap (map seen) l.0 ∙ kept.1 ∙ sym (ap (map seen) k.0))
      both true None d k l = absurd k
      both true (Some c) None k l = absurd l
      both true (Some c) (Some d) k l = let m = merged-once s.kept t.kept (sym kept.1) clock left other c d k l in
          (ap (λ (ps : List (List ℕ)). Some ps) m.0, m.1)

      own : (s.own_parts ≡ t.own_parts) × (map seen other ≡ map seen left)
      own = both merge s.own_parts t.own_parts s.are_merged t.are_merged

      parts : a ≡ b
      parts = s.parts_are ∙ ap₂ (λ (at : Option (List ℕ)) (ps : Option (List (List ℕ))). log_parts at ps) kept.0 own.0 ∙ sym t.parts_are
