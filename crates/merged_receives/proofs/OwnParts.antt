-- The events of which each is made, by their heads, and the places of those that stay.
use Rattle.std.proofs.Common.{ℕ, ℤ, zero, suc, ◌≡◌, ◌∙◌, ◌+◌, ◌<◌, ◌≤◌, ◌≤ℤ◌, Bool, true}
use Rattle.std.proofs.Common.{false, not, cond, List, [], ◌∷◌, ◌++◌, length, length-append, map}
use Rattle.std.proofs.Common.{refl, sym, ap, ap₂, subst, arith}
use Rattle.std.specs.Prelude.{◌==◌, ◌||◌, ◌&&◌, int_lt, nat_lt, slice_index, slice_index_or}
use Rattle.std.specs.List.{filter, range_with_len}
use Rattle.std.proofs.lemmas.Bool.{eq-eqb, eqb-true, false_from_ne_true, not_from_false, true≢false}
use Rattle.std.proofs.lemmas.Int.{ints}
use Rattle.std.proofs.lemmas.List.{length-map, map-append}
use Rattle.std.proofs.lemmas.List.Elements.{filter-append}
use Rattle.std.proofs.lemmas.List.FromFn.{length-range_with_len, get_or-range_with_len}
use Rattle.timed_events.specs.declared.events.Clock.{Clock}
use Rattle.timed_events.specs.declared.events.Event.{Event}
use Rattle.timed_events.specs.Causes.{IsTimeOrder, is_earlier}
use Rattle.timed_events.specs.Checks.{time_at}
use Rattle.timed_events.specs.Times.{least_time, time_tick, time_ticks}
use Rattle.timed_events.proofs.CausalWalks.{range-more}
use Rattle.timed_events.proofs.SortedEvents.{place-found}
use Rattle.timed_events.proofs.TimeBounds.{div_up, apart}
use Rattle.timed_events.proofs.TimeOrders.{inside-order}
use Rattle.timed_events.proofs.NearTimes.{least-at}
use Rattle.merged_receives.specs.Merges.{is_merged, is_part, parts_of, staying_before, staying_places}
use Rattle.merged_receives.specs.MergeWalks.{AreHeadsOf, ArePart, AreParts, AreRising, has_some, own_before, own_parts, places_before}
use Rattle.merged_receives.proofs.JoinedReceives.{head-once, part-self}

-- tests that agree on a list
pub filter-within : (p q : ℕ → Bool) (xs : List ℕ)
    → ((k : ℕ) → k < length xs → p (slice_index xs k) ≡ q (slice_index xs k)) → filter p xs ≡ filter q xs
filter-within p q [] h = refl
filter-within p q (x ∷ xs) h = ap₂ (λ (t : Bool) (ys : List ℕ). cond t (x ∷ ys) ys)
    (h zero (omega arith)) (filter-within p q xs (λ k l. h (suc k) (omega (arith, l))))

filter-none : (p : ℕ → Bool) (xs : List ℕ) → ((k : ℕ) → k < length xs → p (slice_index xs k) ≡ false) → filter p xs ≡ []
filter-none p [] h = refl
filter-none p (x ∷ xs) h = ap₂ (λ (t : Bool) (ys : List ℕ). cond t (x ∷ ys) ys)
    (h zero (omega arith)) (filter-none p xs (λ k l. h (suc k) (omega (arith, l))))

some-cond : (t : Bool) (x : ℕ) (ys : List ℕ) → has_some ys ≡ true → has_some (cond t (x ∷ ys) ys) ≡ true
some-cond true x ys h = refl
some-cond false x ys h = h

filter-some : (p : ℕ → Bool) (xs : List ℕ) (k : ℕ) → k < length xs → p (slice_index xs k) ≡ true → has_some (filter p xs) ≡ true
filter-some p [] k l h = absurd (omega (arith, l))
filter-some p (x ∷ xs) zero l h = ap (λ (t : Bool). has_some (cond t (x ∷ filter p xs) (filter p xs))) h
filter-some p (x ∷ xs) (suc k) l h = some-cond (p x) x (filter p xs) (filter-some p xs k (omega (arith, l)) h)

maps-within : {Y : Type 0} (f g : ℕ → Y) (xs : List ℕ)
    → ((k : ℕ) → k < length xs → f (slice_index xs k) ≡ g (slice_index xs k)) → map f xs ≡ map g xs
maps-within f g [] h = refl
maps-within f g (x ∷ xs) h = ap₂ (λ y ys. y ∷ ys) (h zero (omega arith)) (maps-within f g xs (λ k l. h (suc k) (omega (arith, l))))

in-range : (n k : ℕ) → k < length (range_with_len 0 n) → (slice_index (range_with_len 0 n) k ≡ k) × (k < n)
in-range n k l =
    let long = length-range_with_len 0 n in
    let b : k < n = omega (arith, long, l) in
    let at = get_or-range_with_len 0 n k 0 b in
    (omega (arith, at), b)

module _ (events : List Event) (ticks heads : List ℕ) (w : AreHeadsOf events ticks heads) where
  -- an event is its own head if it stays
  own-head : (h : ℕ) → h < length events → (slice_index heads h == h) ≡ not (is_merged events ticks h)
  own-head h l = go (is_merged events ticks h) refl where
    go : (t : Bool) → is_merged events ticks h ≡ t → (slice_index heads h == h) ≡ not t
    go false e = eq-eqb (slice_index heads h) h
        (head-once events ticks (slice_index heads h) h h (w.each h l) (record { inside = l; stays = e; part = part-self events ticks h }))
    go true e = false_from_ne_true (slice_index heads h == h) (λ t.
        let same = eqb-true (slice_index heads h) h t in
        true≢false (sym e ∙ subst (λ x. is_merged events ticks x ≡ false) same (w.each h l).stays))

  -- an event that stays is the head of its parts
  head-part : (h i : ℕ) → h < length events → i < length events
      → is_merged events ticks h ≡ false → (slice_index heads i == h) ≡ is_part events ticks h i
  head-part h i lh li s = go (is_part events ticks h i) refl where
    go : (t : Bool) → is_part events ticks h i ≡ t → (slice_index heads i == h) ≡ t
    go true e = eq-eqb (slice_index heads i) h
        (head-once events ticks (slice_index heads i) h i (w.each i li) (record { inside = lh; stays = s; part = e }))
    go false e = false_from_ne_true (slice_index heads i == h) (λ t.
        let same = eqb-true (slice_index heads i) h t in
        true≢false (sym (subst (λ x. is_part events ticks x i ≡ true) same (w.each i li).part) ∙ e))

  pub own-staying : (s : ℕ) → s ≤ length events → own_before heads s ≡ staying_before events ticks s
  unfolding own_before staying_before
  own-staying s l =
      filter-within (λ i. slice_index heads i == i) (λ i. not (is_merged events ticks i)) (range_with_len 0 s) (λ k b.
      let r = in-range s k b in
      let at = r.0 in
      let inside = r.1 in
      own-head (slice_index (range_with_len 0 s) k) (omega (arith, at, inside, l)))

  pub places-staying : places_before heads ≡ staying_places events ticks
  unfolding places_before staying_places
  places-staying = ap (λ n. map (λ s. length (own_before heads s)) (range_with_len 0 n)) w.long ∙ maps-within
      (λ s. length (own_before heads s)) (λ s. length (staying_before events ticks s)) (range_with_len 0 (length events)) (λ k b.
      let r = in-range (length events) k b in
      let at = r.0 in
      let inside = r.1 in
      ap (λ (xs : List ℕ). length xs) (own-staying (slice_index (range_with_len 0 (length events)) k) (omega (arith, at, inside))))

  module _ (order : List ℕ) (o : IsTimeOrder events order) where
    -- the events with this head
    abbrev with_head : ℕ → List ℕ
    with_head h = filter (λ i. slice_index heads i == h) order

    kept : (h : ℕ) → h < length events → is_merged events ticks h ≡ false → has_some (with_head h) ≡ true
    kept h l s =
        let f = place-found (length events) order h o.places l in
        filter-some (λ i. slice_index heads i == h) order f.0 f.1
        (subst (λ i. (slice_index heads i == h) ≡ true) (sym f.2) (own-head h l ∙ not_from_false (is_merged events ticks h) s))

    dropped : (h : ℕ) → is_merged events ticks h ≡ true → with_head h ≡ []
    dropped h s = filter-none (λ i. slice_index heads i == h) order
        (λ k l. false_from_ne_true (slice_index heads (slice_index order k) == h) (λ t.
        let same = eqb-true (slice_index heads (slice_index order k)) h t in
        let inside = inside-order events order k o l in
        true≢false (sym s ∙ subst (λ x. is_merged events ticks x ≡ false) same (w.each (slice_index order k) inside).stays)))

    same-parts : (h : ℕ) → h < length events → is_merged events ticks h ≡ false → with_head h ≡ filter (is_part events ticks h) order
    same-parts h l s = filter-within (λ i. slice_index heads i == h)
        (is_part events ticks h) order (λ k b. head-part h (slice_index order k) l (inside-order events order k o b) s)

    parts-in : (xs : List ℕ) → ((k : ℕ) → k < length xs → slice_index xs k < length events)
        → filter has_some (map with_head xs) ≡ map (λ h. filter (is_part events ticks h) order)
        (filter (λ i. not (is_merged events ticks i)) xs)
    parts-in [] h = refl
    parts-in (x ∷ xs) h = go (is_merged events ticks x) refl
        (h zero (omega arith)) (parts-in xs (λ k l. h (suc k) (omega (arith, l)))) where
          go : (t : Bool) → is_merged events ticks x ≡ t → x < length events
              → filter has_some (map with_head xs) ≡ map (λ y. filter (is_part events ticks y) order)
              (filter (λ i. not (is_merged events ticks i)) xs)
              → cond (has_some (with_head x)) (with_head x ∷ filter has_some (map with_head xs))
              (filter has_some (map with_head xs)) ≡ map (λ y. filter (is_part events ticks y) order)
              (cond (not t) (x ∷ filter (λ i. not (is_merged events ticks i)) xs)
              (filter (λ i. not (is_merged events ticks i)) xs))
          go false e inside rest = ap (λ (t : Bool). cond t (with_head x ∷ filter has_some (map with_head xs)) (filter has_some
              (map with_head xs))) (kept x inside e) ∙ ap₂ (λ (ys : List ℕ) (yss : List (List ℕ)). ys ∷ yss) (same-parts x inside e) rest
          go true e inside rest = ap (λ (ys : List ℕ).
              cond (has_some ys) (ys ∷ filter has_some (map with_head xs)) (filter has_some (map with_head xs))) (dropped x e) ∙ rest

    pub parts-are : own_parts heads order ≡ parts_of events ticks order
    unfolding own_parts parts_of staying_before
    parts-are = ap (λ n. filter has_some (map with_head (range_with_len 0 n))) w.long ∙ parts-in (range_with_len 0 (length events))
        (λ k l. let r = in-range (length events) k l in let at = r.0 in let b = r.1 in omega (arith, at, b))

pub below-cond : (n : ℕ) (t : Bool) (x : ℕ) (ys : List ℕ) → x < n
    → ((k : ℕ) → k < length ys → slice_index ys k < n) → (k : ℕ) → k < length (cond t (x ∷ ys) ys) → slice_index (cond t (x ∷ ys) ys) k < n
below-cond n false x ys b h k l = h k l
below-cond n true x ys b h zero l = b
below-cond n true x ys b h (suc k) l = h k (omega (arith, l))

below-filter : (n : ℕ) (p : ℕ → Bool) (xs : List ℕ)
    → ((k : ℕ) → k < length xs → slice_index xs k < n) → (k : ℕ) → k < length (filter p xs) → slice_index (filter p xs) k < n
below-filter n p [] h k l = absurd (omega (arith, l))
below-filter n p (x ∷ xs) h k l = below-cond n (p x) x
    (filter p xs) (h zero (omega arith)) (below-filter n p xs (λ j m. h (suc j) (omega (arith, m)))) k l

some-length : (xs : List ℕ) → has_some xs ≡ true → 0 < length xs
some-length [] h = absurd (cc h)
some-length (x ∷ xs) h = omega arith

parts-cond : (n : ℕ) (t : Bool) (xs : List ℕ) (yss : List (List ℕ)) → (t ≡ true → ArePart n xs)
    → ((k : ℕ) → k < length yss → ArePart n (slice_index_or yss k [])) → (k : ℕ) → k < length (cond t (xs ∷ yss) yss)
    → ArePart n (slice_index_or (cond t (xs ∷ yss) yss) k [])
parts-cond n false xs yss a h k l = h k l
parts-cond n true xs yss a h zero l = a refl
parts-cond n true xs yss a h (suc k) l = h k (omega (arith, l))

parts-each : (n : ℕ) (f : ℕ → List ℕ) (hs : List ℕ) → ((h k : ℕ) → k < length (f h) → slice_index (f h) k < n) → (k : ℕ)
    → k < length (filter has_some (map f hs)) → ArePart n (slice_index_or (filter has_some (map f hs)) k [])
parts-each n f [] b k l = absurd (omega (arith, l))
parts-each n f (h ∷ hs) b k l = parts-cond n (has_some (f h))
    (f h) (filter has_some (map f hs)) (λ e. record { some = some-length (f h) e; inside = b h }) (parts-each n f hs b) k l

-- some event stays: the head of the first
pub some-stays : (events : List Event) (ticks heads order : List ℕ)
    → AreHeadsOf events ticks heads → 0 < length events → 0 < length (parts_of events ticks order)
unfolding parts_of staying_before
some-stays events ticks heads order w some =
    let h = w.each 0 some in
    let all = length-range_with_len 0 (length events) in
    let inside = h.inside in
    let b : slice_index heads 0 < length (range_with_len 0 (length events)) = omega (arith, all, inside) in
    let stays = λ (i : ℕ). not (is_merged events ticks i) in
    let kept =
    some-length (filter stays (range_with_len 0 (length events)))
    (filter-some stays (range_with_len 0 (length events)) (slice_index heads 0) b
    (ap stays (in-range (length events) (slice_index heads 0) b).0
    ∙ not_from_false (is_merged events ticks (slice_index heads 0)) h.stays)) in
    let long = length-map (filter stays (range_with_len 0 (length events))) (λ h. filter (is_part events ticks h) order) in
    omega (arith, kept, long)

pub own-inside : (n : ℕ) (heads order : List ℕ) → ((k : ℕ) → k < length order → slice_index order k < n)
    → AreParts n (own_parts heads order)
unfolding own_parts
own-inside n heads order b = λ k l. parts-each n (λ h. filter (λ i. slice_index heads i == h) order)
    (range_with_len 0 (length heads)) (λ h j m. below-filter n (λ i. slice_index heads i == h) order b j m) k l

-- ticks don't fall in the order of times
tick-at : (f : ℤ → ℕ) (xs : List Event) (i : ℕ) → i < length xs → slice_index (map (λ e. f e.time) xs) i ≡ f (time_at xs i)
tick-at f [] i l = absurd (omega (arith, l))
tick-at f (e ∷ es) zero l = refl
tick-at f (e ∷ es) (suc i) l = tick-at f es i (omega (arith, l))

earlier-time : (events : List Event) (j i : ℕ) → is_earlier events j i ≡ true → time_at events j ≤ℤ time_at events i
earlier-time events j i h = go (int_lt (time_at events j) (time_at events i)) refl
    (int_lt (time_at events i) (time_at events j)) refl (nat_lt j i) refl h where
      go : (a : Bool) → int_lt (time_at events j) (time_at events i) ≡ a → (b : Bool)
          → int_lt (time_at events i) (time_at events j) ≡ b → (c : Bool) → nat_lt j i ≡ c → (a || (not b && c)) ≡ true
          → time_at events j ≤ℤ time_at events i
      go true p b q c s u = grind (arith, ints)
      go false p true q c s u = absurd (cc u)
      go false p false q c s u = grind (arith, ints)

pub rising-ticks : (events : List Event) (clock : Clock) (order : List ℕ)
    → 0 < clock.width → IsTimeOrder events order → AreRising (time_ticks events clock) order
rising-ticks events clock order width o = λ j k b l.
    let lj = inside-order events order j o (omega (arith, b, l)) in
    let lk = inside-order events order k o l in
    let tj = tick-at (time_tick events clock) events (slice_index order j) lj in
    let tk = tick-at (time_tick events clock) events (slice_index order k) lk in
    let up = div_up _ _ clock.width width (apart (least_time events) _ _
    (least-at events (slice_index order j) lj) (earlier-time events (slice_index order j) (slice_index order k) (o.rising j k b l))) in
    omega (arith, tj, tk, up)

-- one event more
own-cond : (t : Bool) (xs : List ℕ) (s : ℕ) → length (xs ++ cond t (s ∷ []) []) ≡ length xs + cond t 1 0
own-cond true xs s = length-append xs (s ∷ [])
own-cond false xs s = length-append xs []

pub own-more : (heads : List ℕ) (s : ℕ) → length (own_before heads (s + 1))
    ≡ length (own_before heads s) + cond (slice_index heads s == s) 1 0
unfolding own_before
own-more heads s =
    ap (λ (xs : List ℕ). length (filter (λ i. slice_index heads i == i) xs)) (range-more 0 s s (omega arith))
    ∙ ap (λ (xs : List ℕ). length xs) (filter-append (λ i. slice_index heads i == i) (range_with_len 0 s) (s ∷ []))
    ∙ own-cond (slice_index heads s == s) (filter (λ i. slice_index heads i == i) (range_with_len 0 s)) s

pub own-start : (heads : List ℕ) → length (own_before heads 0) ≡ 0
unfolding own_before
own-start heads = refl

one-most : (t : Bool) → cond t 1 0 ≤ 1
one-most true = omega arith
one-most false = omega arith

pub own-few : (heads : List ℕ) (s : ℕ) → length (own_before heads s) ≤ s
own-few heads zero = let e = own-start heads in omega (arith, e)
own-few heads (suc s) =
    let e : s + 1 ≡ suc s = omega arith in
    let more = own-more heads s in
    let one = one-most (slice_index heads s == s) in
    let rest = own-few heads s in
    subst (λ n. length (own_before heads n) ≤ n) e (omega (arith, more, one, rest))

pub places-more : (heads : List ℕ) (s : ℕ) → map (λ p. length (own_before heads p)) (range_with_len 0 (s + 1)) ≡ map
    (λ p. length (own_before heads p)) (range_with_len 0 s) ++ length (own_before heads s) ∷ []
places-more heads s = ap (map (λ p. length (own_before heads p))) (range-more 0 s s (omega arith))
    ∙ map-append (λ p. length (own_before heads p)) (range_with_len 0 s) (s ∷ [])

pub places-all : (heads : List ℕ) → map (λ s. length (own_before heads s)) (range_with_len 0 (length heads)) ≡ places_before heads
unfolding places_before
places-all heads = refl
