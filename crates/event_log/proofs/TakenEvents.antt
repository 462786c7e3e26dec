-- What is known of the events of which the trace of a log is made.
use Rattle.std.proofs.Common.{ℕ, ◌≡◌, ◌∙◌, ◌<◌, ◌≤◌, Bool, true, false, not, cond, ◌⊎◌, inl, inr, List, [], ◌∷◌, length, map, Option, Some, None, refl, sym, ap, ap₂, subst, arith}
use Rattle.std.specs.Prelude.{All, MatchBool, ⊤, option_map, slice_get, slice_index, slice_index_or}
use Rattle.std.specs.List.{filter, range_with_len}
use Rattle.std.proofs.lemmas.List.{get_or-map, length-map}
use Rattle.std.proofs.lemmas.List.Elements.{All-cons, All-nil}
use Rattle.std.proofs.lemmas.List.FromFn.{length-range_with_len}
use Rattle.trace_text.proofs.TakenRecords.{unless}
use Rattle.timed_events.specs.declared.events.Clock.{Clock}
use Rattle.timed_events.specs.declared.events.Event.{Event}
use Rattle.timed_events.specs.declared.events.EventAct.{EventAct}
use Rattle.timed_events.specs.declared.events.EventAct.TheVariants as act
use Rattle.timed_events.specs.Checks.{AreMeant, AreOfProcessors, IsEventRefusal}
use Rattle.timed_events.specs.declared.events.EventError.{EventError}
use Rattle.timed_events.specs.declared.events.EventError.TheVariants as refused
use Rattle.timed_events.specs.Times.{time_ticks, times_refusal}
use Rattle.timed_events.proofs.SpreadTraces.{meant-processors}
use Rattle.merged_receives.specs.Merges.{is_merged, is_part, parts_of, staying_before}
use Rattle.merged_receives.specs.MergeWalks.{ArePart, AreParts}
use Rattle.event_log.specs.declared.logs.NamedEvents.{NamedEvents}
use Rattle.event_log.specs.declared.reading.TheConstants.{MAX_EVENTS}
use Rattle.event_log.specs.declared.refusals.LogError.{LogError}
use Rattle.event_log.specs.declared.refusals.LogError.TheVariants.{NoEvents}
use Rattle.event_log.specs.Events.{Seen, seen, seen_act}
use Rattle.event_log.specs.LogPlaces.{log_place}
use Rattle.event_log.specs.TakenEvents.{AreLeftBy, AreMergedBy, AreTaken, IsEmptied, IsTimesError, IsUnmergedOf, first_places, log_parts}
use Rattle.event_log.specs.Logs.{seen_log}
use Rattle.event_log.specs.LostSends.{AreLeft, left_places, new_places}
use Rattle.event_log.specs.MergedLogs.{AreMergedIn, ArePartsWithin}
use Rattle.event_log.specs.Merges.{AreJoined, joined_act, joined_at, joined_event}
use Rattle.event_log.specs.Naming.{is_memory}
use Rattle.event_log.specs.SoundLogs.{IsSound, IsWithin, SendsWithin}
use Rattle.event_log.proofs.LeftEvents.{few-left, left-long, within-left}
use Rattle.event_log.proofs.LostSends.{left-within}
use Rattle.event_log.proofs.MeantEvents.{are-meant, within-at}
use Rattle.event_log.proofs.UnmadeLogs.{few-events}

-- all events, if nothing is asked for
pub whole-taken : (events : List Event) (clock : Clock) → 0 < length events → AreTaken false false events clock events None None
whole-taken events clock some = record {
  kept = events;
  kept_at = None;
  are_kept = (refl, refl);
  some = some;
  own_parts = None;
  are_merged = (refl, refl);
  parts_are = refl;
  at = refl;
}

-- those that are left, if only lost sends are left out
pub left-taken : (events left : List Event) (places : List ℕ) (clock : Clock)
    → AreLeft events left places → 0 < length places → AreTaken true false events clock left (Some places) None
left-taken events left places clock are some = record {
  kept = left;
  kept_at = Some places;
  are_kept = are;
  some = subst (λ n. 0 < n) (sym (left-long events left places are)) some;
  own_parts = None;
  are_merged = (refl, refl);
  parts_are = refl;
  at = refl;
}

-- and those with merged receives
pub merged-taken : (drop : Bool) (events kept merged : List Event) (clock : Clock) (kept_at : Option (List ℕ))
    (places : List ℕ) (parts : Option (List (List ℕ))) → AreLeftBy drop events kept kept_at → 0 < length kept
    → AreMergedIn kept clock kept_at merged places parts → AreTaken drop true events clock merged (Some places) parts
merged-taken drop events kept merged clock kept_at places parts are some m = record {
  kept = kept;
  kept_at = kept_at;
  are_kept = are;
  some = some;
  own_parts = Some m.own;
  are_merged = m.are;
  parts_are = m.parts_are;
  at = ap (λ (ps : List ℕ). Some ps) m.places_are ∙ sym (ap (first_places kept_at) m.parts_are);
}

same-some : {A : Type 0} {x y : A} → ◌≡◌ {A = Option A} (Some x) (Some y) → x ≡ y
same-some e = cc e

-- the places of parts that are among so many, by their places in the log
one-placed : (n top : ℕ) (f : ℕ → ℕ) → ((p : ℕ) → p < n → f p < top) → (part : List ℕ) → ArePart n part → ArePart top (map f part)
one-placed n top f h part a = record {
  some = let l = length-map part f in let s = a.some in omega (arith, l, s);
  inside = λ k b.
      let l = length-map part f in
      let own : k < length part = omega (arith, l, b) in
      subst (λ x. x < top) (sym (get_or-map f part k 0 0 own)) (h (slice_index part k) (a.inside k own));
}

each-placed : (n top : ℕ) (f : ℕ → ℕ) → ((p : ℕ) → p < n → f p < top)
    → (parts : List (List ℕ)) → AreParts n parts → AreParts top (map (map f) parts)
each-placed n top f h parts a = λ k l.
    let long = length-map parts (map f) in
    let own : k < length parts = omega (arith, long, l) in
    subst (λ (xs : List ℕ). ArePart top xs) (sym (get_or-map (map f) parts k [] [] own))
    (one-placed n top f h (slice_index_or parts k []) (a k own))

module _ (kept merged : List Event) (clock : Clock) (at : Option (List ℕ)) (places : List ℕ)
    (parts : Option (List (List ℕ))) (m : AreMergedIn kept clock at merged places parts) (top : ℕ)
    (within : (p : ℕ) → p < length kept → log_place at p < top) where
  are-placed : AreParts top (map (map (log_place at)) m.own)
  are-placed = each-placed (length kept) top (log_place at) within m.own m.inside

  firsts-long : length places ≡ length m.own
  firsts-long = ap (λ (ps : List ℕ). length ps) m.places_are
      ∙ length-map (map (map (log_place at)) m.own) (λ (part : List ℕ). slice_index part 0) ∙ length-map m.own (map (log_place at))

  pub merged-some : 0 < length places
  merged-some = let long = firsts-long in let some = m.some in omega (arith, long, some)

  pub merged-within : (k : ℕ) → k < length places → slice_index places k < top
  merged-within k l =
      let own = length-map m.own (map (log_place at)) in
      let long = firsts-long in
      let b : k < length (map (map (log_place at)) m.own) = omega (arith, own, long, l) in
      let a = are-placed k b in
      subst (λ x. x < top)
      (sym (ap (λ (ps : List ℕ). slice_index ps k) m.places_are
      ∙ get_or-map (λ (part : List ℕ). slice_index part 0) (map (map (log_place at)) m.own) k [] 0 b))
      (a.inside 0 a.some)

  pub merged-parts : (own : List (List ℕ)) → parts ≡ Some own → AreParts top own
  merged-parts own e =
      let same : map (map (log_place at)) m.own ≡ own = same-some (sym m.parts_are ∙ e) in
      subst (λ (ps : List (List ℕ)). AreParts top ps) same are-placed

-- where the events are in the log that are merged
pub kept-places : (drop : Bool) (events kept : List Event) (at : Option (List ℕ))
    → AreLeftBy drop events kept at → (p : ℕ) → p < length kept → log_place at p < length events
kept-places false events kept None k p l = subst (λ (es : List Event). p < length es) k.0 l
kept-places false events kept (Some at) k p l = absurd (let none = k.1 in cc none)
kept-places true events kept None k p l = absurd k
kept-places true events kept (Some at) k p l =
    let long = left-long events kept at k in
    let b : p < length at = omega (arith, long, l) in
    subst (λ (ps : List ℕ). slice_index ps p < length events)
    (sym k.places_are) (left-within events (length events) p (subst (λ (ps : List ℕ). p < length ps) k.places_are b))

-- if each event is at its own place, so are those of parts
own-places : (places : List ℕ) → places ≡ map (log_place None) places
own-places [] = refl
own-places (p ∷ ps) = ap (λ (qs : List ℕ). p ∷ qs) (own-places ps)

own-parts : (parts : List (List ℕ)) → parts ≡ map (map (log_place None)) parts
own-parts [] = refl
own-parts (p ∷ ps) = ap₂ (λ (q : List ℕ) (qs : List (List ℕ)). q ∷ qs) (own-places p) (own-parts ps)

pub all-placed : (at : Option (List ℕ)) (parts : List (List ℕ)) → at ≡ None → parts ≡ map (map (log_place at)) parts
all-placed at parts e = subst (λ (o : Option (List ℕ)). parts ≡ map (map (log_place o)) parts) (sym e) (own-parts parts)

-- the same of parts, if there are any
pub parts-within : (parts : Option (List (List ℕ))) (n : ℕ)
    → ((own : List (List ℕ)) → parts ≡ Some own → AreParts n own) → ArePartsWithin parts n
parts-within None n h = tt
parts-within (Some parts) n h = h parts refl

pub within-parts : (parts : Option (List (List ℕ))) (n : ℕ)
    → ArePartsWithin parts n → (own : List (List ℕ)) → parts ≡ Some own → AreParts n own
within-parts None n h own e = absurd (cc e)
within-parts (Some parts) n h own e = let same : parts ≡ own = cc e in subst (λ (ps : List (List ℕ)). AreParts n ps) same h

-- an event that is made of several sends within as many nodes
sends-joined : (n : ℕ) (events : List Event) (new part : List ℕ) (a : EventAct)
    → SendsWithin n (seen_act a) → SendsWithin n (joined_act events new part a)
sends-joined n events new part (act.Send to) h = h
sends-joined n events new part (act.Receive messages) h = h

one-joined : (n : ℕ) (events : List Event) (new part : List ℕ) (p : ℕ) (e : Event) (o : Option Event)
    → All (IsWithin n) (map seen events) → slice_get events p ≡ o
    → Some (seen e) ≡ option_map (joined_event events new part) o → IsWithin n (seen e)
one-joined n events new part p e None h at same = absurd (cc same)
one-joined n events new part p e (Some x) h at same =
    let is : joined_event events new part x ≡ seen e = cc same in
    let within = within-at n events p x h at in
    subst (λ (s : Seen). IsWithin n s) is (within.0, sends-joined n events new part x.act within.1)

within-joined : (n : ℕ) (events : List Event) (new : List ℕ) (left : List Event) (parts : List (List ℕ))
    → All (IsWithin n) (map seen events) → map (λ e. Some (seen e)) left ≡ map (joined_at events new) parts
    → All (IsWithin n) (map seen left)
within-joined n events new [] parts h same = All-nil (IsWithin n)
within-joined n events new (e ∷ es) [] h same = absurd (cc same)
within-joined n events new (e ∷ es) (p ∷ ps) h same =
    let head : Some (seen e) ≡ joined_at events new p = cc same in
    let tail : map (λ x. Some (seen x)) es ≡ map (joined_at events new) ps = cc same in
    All-cons (IsWithin n) (seen e) (map seen es) (one-joined n events new p
    (slice_index p 0) e (slice_get events (slice_index p 0)) h refl head) (within-joined n events new es ps h tail)

-- one for each part, and no more than there are events
joined-long : (events left : List Event) (clock : Clock) (parts : List (List ℕ))
    → AreJoined events clock left parts → length left ≡ length parts
joined-long events left clock parts h = sym (length-map left (λ e. Some (seen e)))
    ∙ ap (λ (os : List (Option Seen)). length os) h.each ∙ length-map parts (joined_at events h.places)

few-cond : (t : Bool) (x : ℕ) (ys xs : List ℕ) → length ys ≤ length xs → length (cond t (x ∷ ys) ys) ≤ length (x ∷ xs)
few-cond true x ys xs h = omega (arith, h)
few-cond false x ys xs h = omega (arith, h)

few-kept : (p : ℕ → Bool) (xs : List ℕ) → length (filter p xs) ≤ length xs
few-kept p [] = omega arith
few-kept p (x ∷ xs) = few-cond (p x) x (filter p xs) xs (few-kept p xs)

few-parts : (events : List Event) (ticks order : List ℕ) → length (parts_of events ticks order) ≤ length events
unfolding parts_of staying_before
few-parts events ticks order =
    let stays = λ (i : ℕ). not (is_merged events ticks i) in
    let all = length-range_with_len 0 (length events) in
    let few = few-kept stays (range_with_len 0 (length events)) in
    let long = length-map (filter stays (range_with_len 0 (length events))) (λ h. filter (is_part events ticks h) order) in
    omega (arith, all, few, long)

joined-few : (events left : List Event) (clock : Clock) (parts : List (List ℕ))
    → AreJoined events clock left parts → length left ≤ length events
joined-few events left clock parts h =
    let long = joined-long events left clock parts h in
    let are = ap (λ (ps : List (List ℕ)). length ps) h.are.parts_are in
    let few = few-parts events (time_ticks events clock) h.are.order in
    omega (arith, long, are, few)

-- one for each place
pub taken-long : (drop merge : Bool) (events left : List Event) (clock : Clock) (places : List ℕ)
    (parts : Option (List (List ℕ))) → AreTaken drop merge events clock left (Some places) parts
    → length left ≡ length places
taken-long drop merge events left clock places parts h =
    go drop merge h.kept_at h.own_parts h.are_kept h.are_merged (h.at ∙ ap (first_places h.kept_at) h.parts_are) where
      same : (xs ys : List ℕ) → ◌≡◌ {A = Option (List ℕ)} (Some xs) (Some ys) → length ys ≡ length xs
      same xs ys e = ap (λ (zs : List ℕ). length zs) (sym (same-some e))

      go : (d m : Bool) (at : Option (List ℕ)) (own : Option (List (List ℕ))) → AreLeftBy d events h.kept at
          → AreMergedBy m h.kept clock left own → Some places ≡ first_places at (log_parts at own)
          → length left ≡ length places
      go d true at None k m e = absurd m
      go d true at (Some own) k m e = joined-long h.kept left clock own m ∙ sym (length-map own (map (log_place at)))
          ∙ sym (length-map (map (map (log_place at)) own) (λ (part : List ℕ). slice_index part 0))
          ∙ same places (map (λ (part : List ℕ). slice_index part 0) (map (map (log_place at)) own)) e
      go d false at (Some own) k m e = absurd (let none = m.1 in cc none)
      go false false (Some at) None k m e = absurd (let none = k.1 in cc none)
      go false false None None k m e = absurd (cc e)
      go true false None None k m e = absurd k
      go true false (Some at) None k m e = ap (λ (es : List Event). length es) m.0 ∙ left-long events h.kept at k ∙ same places at e

-- they are events of the nodes of a sound log, and no more than it has
module _ (log : NamedEvents) (sound : IsSound (seen_log log)) where
  kept-within : (drop : Bool) (kept : List Event) (at : Option (List ℕ))
      → AreLeftBy drop log.events.items kept at → All (IsWithin (length log.nodes)) (map seen kept)
  kept-within false kept at k = subst (λ (es : List Event). All (IsWithin (length log.nodes)) (map seen es)) (sym k.0) sound.within
  kept-within true kept None k = absurd k
  kept-within true kept (Some at) k = within-left (length log.nodes) log.events.items
      (new_places log.events.items) kept at sound.within k.each

  kept-few : (drop : Bool) (kept : List Event) (at : Option (List ℕ)) → AreLeftBy drop log.events.items kept at → length kept ≤ MAX_EVENTS
  kept-few false kept at k = subst (λ (es : List Event). length es ≤ MAX_EVENTS) (sym k.0) (few-events log sound)
  kept-few true kept None k = absurd k
  kept-few true kept (Some at) k = few-left log sound kept at k

  module _ (drop merge : Bool) (clock : Clock) (left : List Event)
      (at : Option (List ℕ)) (parts : Option (List (List ℕ))) (h : AreTaken drop merge log.events.items clock left at parts) where
    taken-within : All (IsWithin (length log.nodes)) (map seen left)
    taken-within = go merge h.own_parts h.are_merged (kept-within drop h.kept h.kept_at h.are_kept) where
      go : (m : Bool) (own : Option (List (List ℕ))) → AreMergedBy m h.kept clock left own
          → All (IsWithin (length log.nodes)) (map seen h.kept) → All (IsWithin (length log.nodes)) (map seen left)
      go false own k w = subst (λ (es : List Event). All (IsWithin (length log.nodes)) (map seen es)) (sym k.0) w
      go true None k w = absurd k
      go true (Some own) k w = within-joined (length log.nodes) h.kept k.places left own w k.each

    pub taken-meant : AreMeant left (length log.nodes)
    taken-meant = are-meant (length log.nodes) left taken-within

    pub taken-processors : AreOfProcessors left
    taken-processors = meant-processors (length log.nodes) left sound.few_nodes taken-meant

    pub taken-few : length left ≤ MAX_EVENTS
    taken-few = go merge h.own_parts h.are_merged (kept-few drop h.kept h.kept_at h.are_kept) where
      go : (m : Bool) (own : Option (List (List ℕ)))
          → AreMergedBy m h.kept clock left own → length h.kept ≤ MAX_EVENTS → length left ≤ MAX_EVENTS
      go false own k few = subst (λ (es : List Event). length es ≤ MAX_EVENTS) (sym k.0) few
      go true None k few = absurd k
      go true (Some own) k few = let less = joined-few h.kept left clock own k in omega (arith, less, few)

-- none is left, or the times are refused before receives are merged
pub none-taken : (merge : Bool) (events : List Event) (clock : Clock) (why : LogError)
    → MatchBool (is_memory why) ⊤ ((left_places events ≡ []) × (why ≡ NoEvents))
    → MatchBool (is_memory why) ⊤ (IsEmptied true events why ⊎ IsUnmergedOf true merge events clock why)
none-taken merge events clock why = unless (is_memory why) _
    (IsEmptied true events why ⊎ IsUnmergedOf true merge events clock why) (λ none. inl (refl, none.0, none.1))

pub times-refused : (drop : Bool) (events kept : List Event) (clock : Clock) (kept_at : Option (List ℕ))
    → AreLeftBy drop events kept kept_at → 0 < length kept → (why : LogError)
    → MatchBool (is_memory why) ⊤ ((reason : EventError) × (times_refusal kept clock ≡ Some reason)
    × IsTimesError reason why) → MatchBool (is_memory why) ⊤ (IsEmptied drop events why
    ⊎ IsUnmergedOf drop true events clock why)
times-refused drop events kept clock kept_at are some why =
    unless (is_memory why) _ (IsEmptied drop events why ⊎ IsUnmergedOf drop true events clock why) (λ h. inr (record {
      asked = refl;
      kept = kept;
      kept_at = kept_at;
      are_kept = are;
      some = some;
      reason = h.0;
      refused = h.1;
      is = h.2;
    }))

-- the reason against the times is that of the log
pub times-reason : (why : EventError) (refusal : Option EventError) (error : LogError) → IsEventRefusal why refusal
    → MatchBool (is_memory error) ⊤ (IsTimesError why error)
    → MatchBool (is_memory error) ⊤ ((reason : EventError) × (refusal ≡ Some reason) × IsTimesError reason error)
times-reason why refusal error h = unless (is_memory error)
    (IsTimesError why error) ((reason : EventError) × (refusal ≡ Some reason) × IsTimesError reason error) (go why h) where
      go : (w : EventError) → IsEventRefusal w refusal
          → IsTimesError w error → (reason : EventError) × (refusal ≡ Some reason) × IsTimesError reason error
      go refused.UntilTooEarly is t = (refused.UntilTooEarly, is, t)
      go refused.TooManyTicks is t = (refused.TooManyTicks, is, t)
      go (refused.NeverSent i k) is t = absurd t
      go (refused.WrongReceiver i k) is t = absurd t
      go (refused.ReceivedBefore i k) is t = absurd t
      go (refused.NotLater i k hint) is t = absurd t
      go (refused.SecondEvent i tick hint) is t = absurd t
      go (refused.Cycle i) is t = absurd t
      go refused.Memory is t = absurd t
