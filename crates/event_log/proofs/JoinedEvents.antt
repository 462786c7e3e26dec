-- Events that are made of several: the first of each, with the messages of all.
use Rattle.std.proofs.Common.{ℕ, zero, suc, ◌≡◌, ◌∙◌, ◌+◌, ◌<◌, ◌⊎◌, inl, inr, Bool, true, false, not, cond, List, [], ◌∷◌, ◌++◌, append-nil, length, length-append}
use Rattle.std.proofs.Common.{◌≤◌, fold, get_or, map, set, take, refl, sym, ap, ap₂, subst, arith, Option, Some}
use Rattle.std.specs.Prelude.{nat_lt, option_map, slice_get, slice_index, slice_index_or}
use Rattle.std.specs.Option.{option_map_or}
use Rattle.std.specs.List.{filter, flat_map, range_with_len}
use Rattle.std.specs.List.Sorted.{IsStrictlyIncreasing}
use Rattle.std.proofs.lemmas.Bool.{false_from_ne_true, ltb-true}
use Rattle.std.proofs.lemmas.List.{append_assoc, get_or-map, length-map, length-take-le, map-append, take_more}
use Rattle.std.proofs.lemmas.List.FromFn.{get_or-range_with_len, length-range_with_len}
use Rattle.timed_events.specs.declared.events.Clock.{Clock}
use Rattle.timed_events.specs.declared.events.Event.{Event}
use Rattle.timed_events.specs.declared.events.EventAct.{EventAct}
use Rattle.timed_events.specs.declared.events.EventAct.TheVariants as act
use Rattle.timed_events.specs.Checks.{messages_at, received_in}
use Rattle.timed_events.specs.Causes.{IsTimeOrder, is_earlier}
use Rattle.timed_events.specs.Times.{time_ticks}
use Rattle.timed_events.proofs.EarlierEvents.{earlier-one_way}
use Rattle.timed_events.proofs.SortedEvents.{place-found}
use Rattle.merged_receives.specs.Merges.{AreMerged, is_joined, is_merged, is_part, parts_of, staying_before}
use Rattle.merged_receives.specs.MergeWalks.{AreParts}
use Rattle.merged_receives.proofs.JoinedReceives.{joined-is as joined-parts, part-is, part-self}
use Rattle.merged_receives.proofs.OwnParts.{below-cond}
use Rattle.event_log.specs.declared.joined_receives.JoinedReceive.{JoinedReceive}
use Rattle.event_log.specs.Events.{Seen, SeenAct, Receives, seen, seen_act}
use Rattle.event_log.specs.LostSends.{left_act, left_event, left_message}
use Rattle.event_log.specs.Merges.{changed_at, joined_act, joined_at, joined_event, joined_from, joined_messages, joined_receive, receiving, receiving_act, with_messages}
use Rattle.event_log.proofs.KeptEvents.{rising-places}

-- an event that is made of several has the messages of all in place of its own
act-is : (events : List Event) (new part : List ℕ) (a : EventAct)
    → joined_act events new part a ≡ receiving_act (joined_messages events new part) (seen_act a)
act-is events new part (act.Send to) = refl
act-is events new part (act.Receive messages) = refl

pub joined-is : (events : List Event) (new part : List ℕ) (e : Event)
    → joined_event events new part e ≡ receiving (joined_messages events new part) (seen e)
joined-is events new part e = ap (λ (a : SeenAct). let z : Seen = record { time = e.time; processor = e.processor; act = a } in z)
    (act-is events new part e.act)

-- whatever its messages are by
received-anew : (messages : List (Option ℕ)) (new : List ℕ) (a : EventAct)
    → receiving_act messages (left_act new (seen_act a)) ≡ receiving_act messages (seen_act a)
received-anew messages new (act.Send to) = refl
received-anew messages new (act.Receive own) = refl

several-is : (events : List Event) (new part : List ℕ) (e : Event)
    → receiving (joined_messages events new part) (left_event new (seen e)) ≡ joined_event events new part e
several-is events new part e = ap (λ (a : SeenAct). let z : Seen = record { time = e.time; processor = e.processor; act = a } in z)
    (received-anew (joined_messages events new part) new e.act) ∙ sym (joined-is events new part e)

-- a list of one
pub one-part : (f : ℕ → List (Option ℕ)) (part : List ℕ) → length part ≡ 1 → flat_map f part ≡ f (slice_index part 0)
one-part f [] e = absurd (omega (arith, e))
one-part f (p ∷ []) e = append-nil (f p)
one-part f (p ∷ q ∷ ps) e = absurd (omega (arith, e))

-- an event that is made of one has its own messages
one-act : (events : List Event) (new part : List ℕ) (a : EventAct)
    → joined_messages events new part ≡ map (left_message new) (received_in a) → left_act new (seen_act a) ≡ joined_act events new part a
one-act events new part (act.Send to) h = refl
one-act events new part (act.Receive own) h = ap (λ (ms : List (Option ℕ)). Receives ms) (sym h)

one-is : (events : List Event) (new part : List ℕ) (e : Event)
    → Some e ≡ slice_get events (slice_index part 0) → length part ≡ 1 → left_event new (seen e) ≡ joined_event events new part e
one-is events new part e own one =
    ap (λ (a : SeenAct). let z : Seen = record { time = e.time; processor = e.processor; act = a } in z) (one-act events new part e.act
    (one-part (λ (p : ℕ). map (left_message new) (messages_at events p)) part one
    ∙ ap (λ (o : Option Event). map (left_message new) (option_map_or (λ (x : Event). received_in x.act) o [])) (sym own)))

-- the one behind so many is changed
changed-behind : (f : Seen → Seen) (xs ys : List Seen) (y : Seen) → changed_at (length xs) f (xs ++ y ∷ ys) ≡ xs ++ f y ∷ ys
changed-behind f [] ys y = refl
changed-behind f (x ∷ xs) ys y = ap (λ (zs : List Seen). x ∷ zs) (changed-behind f xs ys y)

-- a Send is as it was, and a receive has these messages
sent-act : (messages : List (Option ℕ)) (a : EventAct) (to : ℕ) → a ≡ act.Send to → seen_act a ≡ receiving_act messages (seen_act a)
sent-act messages (act.Send n) to h = refl
sent-act messages (act.Receive own) to h = absurd (cc h)

pub sent-as_before : (messages : List (Option ℕ)) (e : Event) (to : ℕ) → e.act ≡ act.Send to → seen e ≡ receiving messages (seen e)
sent-as_before messages e to h = ap (λ (a : SeenAct). let z : Seen = record { time = e.time; processor = e.processor; act = a } in z)
    (sent-act messages e.act to h)

received-act : (messages : List (Option ℕ)) (a : EventAct) (own : List (Option ℕ))
    → a ≡ act.Receive own → Receives messages ≡ receiving_act messages (seen_act a)
received-act messages (act.Send n) own h = absurd (cc h)
received-act messages (act.Receive ms) own h = refl

pub received-by : (messages : List (Option ℕ)) (e : Event) (own : List (Option ℕ)) → e.act ≡ act.Receive own
    → seen (record { time = e.time; processor = e.processor; act = act.Receive messages }) ≡ receiving messages (seen e)
received-by messages e own h = ap (λ (a : SeenAct). let z : Seen = record { time = e.time; processor = e.processor; act = a } in z)
    (received-act messages e.act own h)

-- nothing is changed behind the last one
pub changed-past : (k : ℕ) (f : Seen → Seen) (es : List Event) → length es ≤ k → map seen es ≡ changed_at k f (map seen es)
changed-past k f [] l = refl
changed-past zero f (e ∷ es) l = absurd (omega (arith, l))
changed-past (suc k) f (e ∷ es) l = ap (λ (ss : List Seen). seen e ∷ ss) (changed-past k f es (omega (arith, l)))

pub changed-inside : (k : ℕ) (f : Seen → Seen) (es : List Event) (d new : Event)
    → k < length es → seen new ≡ f (seen (get_or es k d)) → map seen (set es k new) ≡ changed_at k f (map seen es)
changed-inside k f [] d new l h = absurd (omega (arith, l))
changed-inside zero f (e ∷ es) d new l h = ap (λ (s : Seen). s ∷ map seen es) h
changed-inside (suc k) f (e ∷ es) d new l h = ap (λ (ss : List Seen). seen e ∷ ss) (changed-inside k f es d new (omega (arith, l)) h)

module _ (events : List Event) (new : List ℕ) where
  -- the events behind `xs` with the messages of their parts
  abbrev given : List Seen → List Event → List (List ℕ) → ℕ → List Seen
  given xs es parts k = fold with_messages (xs ++ map (left_event new) (map seen es)) (joined_from events new k parts)

  -- one more event stands before the others
  joined-next : (xs : List Seen) (y : Seen) (e : Event) (es : List Event) (p : List ℕ) (ps : List (List ℕ))
      → Some e ≡ slice_get events (slice_index p 0) → y ≡ joined_event events new p e
      → map Some (given (xs ++ y ∷ []) es ps (length (xs ++ y ∷ []))) ≡ map Some (xs ++ y ∷ []) ++ map (joined_at events new) ps
      → map Some (fold with_messages (xs ++ y ∷ map (left_event new) (map seen es)) (joined_from events new (length xs + 1) ps))
      ≡ map Some xs ++ joined_at events new p ∷ map (joined_at events new) ps
  joined-next xs y e es p ps own is rest = ap₂ (λ (zs : List Seen) (k : ℕ). map Some (fold with_messages zs (joined_from events new k ps)))
      (sym (append_assoc xs (y ∷ []) (map (left_event new) (map seen es)))) (sym (length-append xs (y ∷ [])))
      ∙ rest ∙ ap (λ (os : List (Option Seen)). os ++ map (joined_at events new) ps) (map-append Some xs (y ∷ []))
      ∙ append_assoc (map Some xs) (Some y ∷ []) (map (joined_at events new) ps) ∙ ap
      (λ (o : Option Seen). map Some xs ++ o ∷ map (joined_at events new) ps) (ap Some is ∙ ap (option_map (joined_event events new p)) own)

  joined-all : (xs : List Seen) (kept : List Event) (parts : List (List ℕ))
      → map Some kept ≡ map (slice_get events) (map (λ part. slice_index part 0) parts)
      → AreParts (length events) parts → map Some (given xs kept parts (length xs)) ≡ map Some xs ++ map (joined_at events new) parts
  joined-all xs [] [] at inside = map-append Some xs []
  joined-all xs (e ∷ es) [] at inside = absurd (cc at)
  joined-all xs [] (p ∷ ps) at inside = absurd (cc at)
  joined-all xs (e ∷ es) (p ∷ ps) at inside =
      go (nat_lt (length p) 2) refl (λ y. joined-all (xs ++ y ∷ []) es ps (cc at) (λ k l. inside (suc k) (omega (arith, l)))) where
        own : ◌≡◌ {A = Option Event} (Some e) (slice_get events (slice_index p 0))
        own = cc at

        go : (t : Bool) → nat_lt (length p) 2 ≡ t → ((y : Seen)
            → map Some (given (xs ++ y ∷ []) es ps (length (xs ++ y ∷ []))) ≡ map Some (xs ++ y ∷ []) ++ map (joined_at events new) ps)
            → map Some (given xs (e ∷ es) (p ∷ ps) (length xs)) ≡ map Some xs ++ joined_at events new p ∷ map (joined_at events new) ps
        go true few next =
            ap (λ (t : Bool). map Some (fold with_messages (xs ++ left_event new (seen e) ∷ map (left_event new) (map seen es)) (cond t []
            (record { event = length xs; messages = joined_messages events new p } ∷ []) ++ joined_from events new (length xs + 1) ps))) few
            ∙ joined-next xs (left_event new (seen e)) e es p ps own (one-is events new p e own (let some = (inside 0 (omega arith)).some in
            let most = ltb-true (length p) 2 few in omega (arith, some, most))) (next (left_event new (seen e)))
        go false several next =
            ap (λ (t : Bool). map Some (fold with_messages (xs ++ left_event new (seen e) ∷ map (left_event new) (map seen es))
            (cond t [] (record { event = length xs; messages = joined_messages events new p } ∷ []) ++ joined_from events new (length xs
            + 1) ps))) several ∙ ap (λ (zs : List Seen). map Some (fold with_messages zs (joined_from events new (length xs + 1) ps)))
            (changed-behind (receiving (joined_messages events new p)) xs (map (left_event new) (map seen es)) (left_event new (seen e)))
            ∙ joined-next xs (receiving (joined_messages events new p) (left_event new (seen e))) e es p ps own
            (several-is events new p e) (next (receiving (joined_messages events new p) (left_event new (seen e))))

some-seen : (es : List Event) → map (λ e. Some (seen e)) es ≡ map Some (map seen es)
some-seen [] = refl
some-seen (e ∷ es) = ap (λ (os : List (Option Seen)). Some (seen e) ∷ os) (some-seen es)

pub joined-each : (events kept left joined : List Event) (new : List ℕ) (parts : List (List ℕ)) (receives : List JoinedReceive)
    → map Some kept ≡ map (slice_get events) (map (λ part. slice_index part 0) parts) → AreParts (length events) parts
    → map seen left ≡ map (left_event new) (map seen kept) → receives ≡ joined_from events new 0 parts
    → map seen joined ≡ fold with_messages (map seen left) receives
    → map (λ e. Some (seen e)) joined ≡ map (joined_at events new) parts
joined-each events kept left joined new parts receives at inside anew listed is =
    some-seen joined
    ∙ ap (map Some) (is ∙ ap₂ (λ (ss : List Seen) (rs : List JoinedReceive). fold with_messages ss rs) anew listed)
    ∙ joined-all events new [] kept parts at inside

-- one part more
joined-more : (events : List Event) (new : List ℕ) (k : ℕ) (parts : List (List ℕ)) (p : List ℕ)
    → joined_from events new k (parts ++ p ∷ []) ≡ joined_from events new k parts ++ joined_receive events new (k + length parts) p
joined-more events new k [] p = let e : k + 0 ≡ k = omega arith in rw e (append-nil (joined_receive events new k p))
joined-more events new k (q ∷ qs) p =
    let e : k + 1 + length qs ≡ k + suc (length qs) = omega arith in
    ap (λ (rs : List JoinedReceive). joined_receive events new k q ++ rs)
    (joined-more events new (k + 1) qs p ∙ ap (λ (n : ℕ). joined_from events new (k + 1) qs ++ joined_receive events new n p) e)
    ∙ sym (append_assoc (joined_receive events new k q)
    (joined_from events new (k + 1) qs) (joined_receive events new (k + suc (length qs)) p))

pub joined-step : (events : List Event) (new : List ℕ) (parts : List (List ℕ)) (k : ℕ) → k < length parts → joined_from events new 0
    (take (k + 1) parts) ≡ joined_from events new 0 (take k parts) ++ joined_receive events new k (slice_index_or parts k [])
joined-step events new parts k l =
    ap (joined_from events new 0) (take_more parts k [] l)
    ∙ joined-more events new 0 (take k parts) (slice_index_or parts k [])
    ∙ ap (λ (n : ℕ). joined_from events new 0 (take k parts) ++ joined_receive events new n (slice_index_or parts k []))
    (let e = length-take-le k parts (omega (arith, l)) in omega (arith, e))

-- the first event of a part is the one into which the others are merged
first-passing : (p : ℕ → Bool) (xs : List ℕ) (k : ℕ) → k < length xs
    → p (slice_index xs k) ≡ true → ((j : ℕ) → j < k → p (slice_index xs j) ≡ false) → slice_index (filter p xs) 0 ≡ slice_index xs k
first-passing p [] k l h none = absurd (omega (arith, l))
first-passing p (x ∷ xs) zero l h none = ap (λ (t : Bool). slice_index (cond t (x ∷ filter p xs) (filter p xs)) 0) h
first-passing p (x ∷ xs) (suc k) l h none =
    ap (λ (t : Bool). slice_index (cond t (x ∷ filter p xs) (filter p xs)) 0) (none zero (omega arith))
    ∙ first-passing p xs k (omega (arith, l)) h (λ j b. none (suc j) (omega (arith, b)))

passing-below : (p : ℕ → Bool) (n : ℕ) (xs : List ℕ)
    → ((k : ℕ) → k < length xs → slice_index xs k < n) → (k : ℕ) → k < length (filter p xs) → slice_index (filter p xs) k < n
passing-below p n [] h k l = absurd (omega (arith, l))
passing-below p n (x ∷ xs) h k l = below-cond n (p x) x
    (filter p xs) (h zero (omega arith)) (passing-below p n xs (λ j b. h (suc j) (omega (arith, b)))) k l

staying-inside : (events : List Event) (ticks : List ℕ) (s k : ℕ)
    → k < length (staying_before events ticks s) → slice_index (staying_before events ticks s) k < s
unfolding staying_before
staying-inside events ticks s = passing-below (λ i. not (is_merged events ticks i)) s (range_with_len 0 s) (λ k l.
    let long = length-range_with_len 0 s in let at = get_or-range_with_len 0 s k 0 (omega (arith, long, l)) in omega (arith, at, long, l))

module _ (events : List Event) (ticks order : List ℕ) (o : IsTimeOrder events order) where
  first-is : (h : ℕ) → h < length events → slice_index (filter (is_part events ticks h) order) 0 ≡ h
  first-is h l = first-passing (is_part events ticks h) order f.0 f.1
      (subst (λ i. is_part events ticks h i ≡ true) (sym f.2) (part-self events ticks h)) none ∙ f.2 where
        f : (j : ℕ) × (j < length order) × (slice_index order j ≡ h)
        f = place-found (length events) order h o.places l

        none : (j : ℕ) → j < f.0 → is_part events ticks h (slice_index order j) ≡ false
        none j b = false_from_ne_true (is_part events ticks h (slice_index order j))
            (λ t. go (part-is events ticks h (slice_index order j) t)) where
              before : is_earlier events (slice_index order j) h ≡ true
              before = subst (λ i. is_earlier events (slice_index order j) i ≡ true) f.2 (o.rising j f.0 b f.1)

              go : (h ≡ slice_index order j) ⊎ (is_joined events ticks h (slice_index order j) ≡ true) → ⊥
              go (inl e) = let self = subst (λ i. is_earlier events i h ≡ true) (sym e) before in earlier-one_way events h h self self
              go (inr joined) = earlier-one_way events h (slice_index order j)
                  (joined-parts events ticks h (slice_index order j) joined).earlier before

  firsts : (xs : List ℕ) → ((k : ℕ) → k < length xs → slice_index xs k < length events)
      → map (λ part. slice_index part 0) (map (λ h. filter (is_part events ticks h) order) xs) ≡ xs
  firsts [] h = refl
  firsts (x ∷ xs) h = ap₂ (λ (y : ℕ) (ys : List ℕ). y ∷ ys)
      (first-is x (h zero (omega arith))) (firsts xs (λ k l. h (suc k) (omega (arith, l))))

  firsts-are : map (λ part. slice_index part 0) (parts_of events ticks order) ≡ staying_before events ticks (length events)
  unfolding parts_of
  firsts-are = firsts (staying_before events ticks (length events)) (staying-inside events ticks (length events))

-- so the first events rise
pub firsts-rising : (events : List Event) (clock : Clock) (parts : List (List ℕ)) (places : List ℕ)
    → AreMerged events clock parts places → IsStrictlyIncreasing (map (λ part. slice_index part 0) parts)
unfolding staying_before
firsts-rising events clock parts places m =
    let ticks = time_ticks events clock in
    subst (λ (xs : List ℕ). IsStrictlyIncreasing xs)
    (sym (ap (map (λ (part : List ℕ). slice_index part 0)) m.parts_are ∙ firsts-are events ticks m.order m.in_time))
    (rising-places (λ i. not (is_merged events ticks i)) (length events))

-- and are among so many
pub firsts-inside : (n : ℕ) (parts : List (List ℕ)) → AreParts n parts
    → (k : ℕ) → k < length (map (λ part. slice_index part 0) parts) → slice_index (map (λ part. slice_index part 0) parts) k < n
firsts-inside n parts h k l =
    let long = length-map parts (λ (part : List ℕ). slice_index part 0) in
    let own : k < length parts = omega (arith, l, long) in
    let part = h k own in
    subst (λ x. x < n) (sym (get_or-map (λ (part : List ℕ). slice_index part 0) parts k [] 0 own)) (part.inside 0 part.some)
