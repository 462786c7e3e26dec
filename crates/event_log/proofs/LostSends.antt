-- The places of the events that are left.
use Rattle.std.proofs.Common.{ℕ, zero, suc, ◌≡◌, ◌∙◌, ◌+◌, ◌-◌, ◌<◌, ◌≤◌, ◌⊎◌, inl, inr, Bool, true, false, not, cond, ap₂}
use Rattle.std.proofs.Common.{List, [], ◌∷◌, ◌++◌, length, map, get_or, slice_index, refl, sym, ap, subst, arith}
use Rattle.std.proofs.Common.{append-nil, length-append}
use Rattle.std.specs.Prelude.{Option, Some, option_map, slice_get}
use Rattle.std.specs.List.{filter, range_with_len}
use Rattle.std.specs.List.Sorted.{IsStrictlyIncreasing}
use Rattle.std.proofs.lemmas.List.{get_or-append_right, get_or_append_left, map-append}
use Rattle.std.proofs.lemmas.List.Elements.{filter-append}
use Rattle.std.proofs.lemmas.Bool.{cases_lt}
use Rattle.timed_events.specs.declared.events.Event.{Event}
use Rattle.timed_events.proofs.CausalWalks.{range-more}
use Rattle.event_log.specs.Events.{Seen, seen}
use Rattle.event_log.specs.LostSends.{is_lost, left_before, left_event, left_places, new_places, renumbered_at}
use Rattle.event_log.proofs.KeptEvents.{rising-places}

-- one place more is left, unless its event is lost
one-left : (t : Bool) (xs : List ℕ) (s : ℕ) → xs ++ cond (not t) (s ∷ []) [] ≡ cond t xs (xs ++ s ∷ [])
one-left true xs s = append-nil xs
one-left false xs s = refl

pub left-more : (events : List Event) (s : ℕ) → left_before events (s + 1)
    ≡ cond (is_lost events s) (left_before events s) (left_before events s ++ s ∷ [])
unfolding left_before
left-more events s =
    let kept = λ (p : ℕ). not (is_lost events p) in
    ap (filter kept) (range-more 0 s s (omega arith)) ∙ filter-append kept (range_with_len 0 s) (s ∷ [])
    ∙ one-left (is_lost events s) (filter kept (range_with_len 0 s)) s

left-none : (events : List Event) → left_before events 0 ≡ []
unfolding left_before
left-none events = refl

-- no more are left than there are
few-more : (t : Bool) (xs : List ℕ) (s : ℕ) → length xs ≤ s → length (cond t xs (xs ++ s ∷ [])) ≤ s + 1
few-more true xs s h = omega (arith, h)
few-more false xs s h = omega (arith, h, length-append xs (s ∷ []))

pub left-few : (events : List Event) (s : ℕ) → length (left_before events s) ≤ s
left-few events zero = subst (λ xs. length xs ≤ 0) (sym (left-none events)) (omega arith)
left-few events (suc s) =
    let e : s + 1 ≡ suc s = omega arith in
    subst (λ n. length (left_before events n) ≤ n) e (subst (λ xs. length xs ≤ s + 1)
    (sym (left-more events s)) (few-more (is_lost events s) (left_before events s) s (left-few events s)))

-- each of them is before that place
AreBelow : List ℕ → ℕ → Type 0
AreBelow xs n = (k : ℕ) → k < length xs → slice_index xs k < n

below-more : (t : Bool) (xs : List ℕ) (s : ℕ) → AreBelow xs s → AreBelow (cond t xs (xs ++ s ∷ [])) (s + 1)
unfolding AreBelow
below-more true xs s h k l = let b = h k l in omega (arith, b)
below-more false xs s h k l = go (cases_lt k (length xs)) where
  go : (k < length xs) ⊎ (length xs ≤ k) → slice_index (xs ++ s ∷ []) k < s + 1
  go (inl b) = let e = get_or_append_left xs (s ∷ []) 0 k b in let m = h k b in omega (arith, e, m)
  go (inr b) =
      let n = length-append xs (s ∷ []) in
      let z : k - length xs ≡ 0 = omega (arith, n, l, b) in
      let e = get_or-append_right xs (s ∷ []) (length xs) k 0 refl b in
      let f : get_or (s ∷ []) (k - length xs) 0 ≡ s = ap (λ i. get_or (s ∷ []) i 0) z in
      omega (arith, e, f)

none-below : AreBelow [] 0
unfolding AreBelow
none-below k l = absurd (omega (arith, l))

left-below : (events : List Event) (s : ℕ) → AreBelow (left_before events s) s
left-below events zero = subst (λ xs. AreBelow xs 0) (sym (left-none events)) none-below
left-below events (suc s) =
    let e : s + 1 ≡ suc s = omega arith in
    subst (λ n. AreBelow (left_before events n) n) e (subst (λ xs. AreBelow xs (s + 1))
    (sym (left-more events s)) (below-more (is_lost events s) (left_before events s) s (left-below events s)))

pub left-within : (events : List Event) (s k : ℕ) → k < length (left_before events s) → slice_index (left_before events s) k < s
unfolding AreBelow
left-within events s k l = left-below events s k l

-- the new place of one event more
pub ranks-more : (events : List Event) (s : ℕ) → map (λ p. length (left_before events p)) (range_with_len 0 (s + 1))
    ≡ map (λ p. length (left_before events p)) (range_with_len 0 s) ++ length (left_before events s) ∷ []
ranks-more events s =
    let rank = λ (p : ℕ). length (left_before events p) in
    ap (map rank) (range-more 0 s s (omega arith)) ∙ map-append rank (range_with_len 0 s) (s ∷ [])

pub new-places-are : (events : List Event) → map (λ p. length (left_before events p)) (range_with_len 0 (length events)) ≡ new_places events
unfolding new_places
new-places-are events = refl

pub left-start : (events : List Event) → [] ≡ left_before events 0
left-start events = sym (left-none events)

-- they rise
pub left-rising : (events : List Event) → IsStrictlyIncreasing (left_places events)
unfolding left_before
left-rising events = rising-places (λ p. not (is_lost events p)) (length events)

-- the events at these places, with their messages by the new places of the sends
pub left-each : (events kept left : List Event) (new places : List ℕ) → map Some kept ≡ map (slice_get events) places
    → map seen left ≡ map (left_event new) (map seen kept)
    → map (λ e. Some (seen e)) left ≡ map (renumbered_at events new) places
left-each events [] [] new [] at is = refl
left-each events [] (x ∷ xs) new places at is = absurd (cc is)
left-each events (e ∷ es) [] new places at is = absurd (cc is)
left-each events [] [] new (p ∷ ps) at is = absurd (cc at)
left-each events (e ∷ es) (x ∷ xs) new [] at is = absurd (cc at)
left-each events (e ∷ es) (x ∷ xs) new (p ∷ ps) at is =
    let own : ◌≡◌ {A = Option Event} (Some e) (slice_get events p) = cc at in
    let rest : map Some es ≡ map (slice_get events) ps = cc at in
    let head : seen x ≡ left_event new (seen e) = cc is in
    let tail : map seen xs ≡ map (left_event new) (map seen es) = cc is in
    ap₂ (λ (o : Option Seen) (os : List (Option Seen)). o ∷ os)
    (ap (λ (s : Seen). Some s) head ∙ ap (option_map (λ (y : Event). left_event new (seen y))) own)
    (left-each events es xs new ps rest tail)
