-- Events that are kept at rising places, in the memory of all, and changed where they are.
use Rattle.std.proofs.Common.{ℕ, zero, suc, ◌≡◌, ◌∙◌, ◌+◌, ◌<◌, ◌≤◌, ◌⊎◌, inl, inr, List, [], ◌∷◌, ◌++◌, length, get_or, map, set, take, drop, Option, Some, refl, sym, ap, ap₂, subst, arith}
use Rattle.std.specs.Prelude.{Bool, slice_get, slice_index}
use Rattle.std.specs.List.{SwappedAt, filter, range_with_len}
use Rattle.std.specs.List.Sorted.{IsStrictlyIncreasing}
use Rattle.std.proofs.lemmas.Bool.{cases_eq, cases_lt}
use Rattle.std.proofs.lemmas.List.{length-map, map-set}
use Rattle.std.proofs.lemmas.List.FromFn.{get_or-range_with_len, length-range_with_len}
use Rattle.std.proofs.lemmas.List.Kept.{AllPairs-from_increasing, IsStrictlyIncreasing-filter}
use Rattle.std.proofs.lemmas.Option.{slice_get-get_or}
use Rattle.timed_events.specs.declared.events.Event.{Event}
use Rattle.event_log.specs.Events.{Seen, seen}

-- places of a range that pass a test rise
range-rising : (n : ℕ) → IsStrictlyIncreasing (range_with_len 0 n)
range-rising n k l =
    let long = length-range_with_len 0 n in
    let one = get_or-range_with_len 0 n k 0 (omega (arith, l, long)) in
    let two = get_or-range_with_len 0 n (k + 1) 0 (omega (arith, l, long)) in
    omega (arith, one, two)

pub rising-places : (p : ℕ → Bool) (n : ℕ) → IsStrictlyIncreasing (filter p (range_with_len 0 n))
rising-places p n = IsStrictlyIncreasing-filter p (range_with_len 0 n) (range-rising n)

-- the events before place k are those at the places, and behind those all are as they were
pub record AreKeptTo (old now : List Event) (places : List ℕ) (k : ℕ) : Type 0 where
  pub long : length now ≡ length old
  pub kept : (j : ℕ) (d : Event) → j < k → get_or now j d ≡ get_or old (slice_index places j) d
  pub behind : (i : ℕ) (d : Event) → ((j : ℕ) → j < k → slice_index places j < i) → get_or now i d ≡ get_or old i d

pub kept-start : (events : List Event) (places : List ℕ) → AreKeptTo events events places 0
kept-start events places = record {
  long = refl;
  kept = λ j d l. absurd (omega (arith, l));
  behind = λ i d h. refl;
}

module _ (places : List ℕ) (up : IsStrictlyIncreasing places) where
  -- each is where it is kept, or behind it
  pub is-above : (k : ℕ) → k < length places → k ≤ slice_index places k
  is-above zero l = omega arith
  is-above (suc k) l =
      let e : k + 1 ≡ suc k = omega arith in
      let before = is-above k (omega (arith, l)) in
      let next = up k (omega (arith, l)) in
      subst (λ n. n ≤ slice_index places n) e (omega (arith, before, next))

  pub kept-next : (old now next : List Event) (k : ℕ) → k < length places → SwappedAt now next k (slice_index places k)
      → length next ≡ length now → AreKeptTo old now places k → AreKeptTo old next places (k + 1)
  kept-next old now next k l swapped long w = record {
    long = long ∙ w.long;
    kept = λ j d b. one j d b (cases_eq j k);
    behind = λ i d h.
        let far = h k (omega arith) in
        let above = is-above k l in
        swapped.2 i d (λ e. omega (arith, e, far, above)) (λ e. omega (arith, e, far)) ∙ w.behind i d (λ j b. h j (omega (arith, b)));
  } where
    one : (j : ℕ) (d : Event) → j < k + 1 → (j ≡ k) ⊎ ¬ (j ≡ k) → get_or next j d ≡ get_or old (slice_index places j) d
    one j d b (inl e) =
        subst (λ n. get_or next n d ≡ get_or old (slice_index places n) d) (sym e)
        (swapped.0 d ∙ w.behind (slice_index places k) d (λ i m. AllPairs-from_increasing places up i k 0 m l))
    one j d b (inr n) =
        let before : j < k = lt (cases_lt j k) in
        let above = is-above k l in
        swapped.2 j d n (λ e. omega (arith, e, before, above)) ∙ w.kept j d before
      where
        lt : (j < k) ⊎ (k ≤ j) → j < k
        lt (inl m) = m
        lt (inr m) = absurd (n (omega (arith, b, m)))

  pub few : (n k : ℕ) → k ≡ length places → ((i : ℕ) → i < length places → slice_index places i < n) → length places ≤ n
  few n zero e inside = omega (arith, e)
  few n (suc k) e inside =
      let l : k < length places = omega (arith, e) in
      let above = is-above k l in
      let b = inside k l in
      omega (arith, e, above, b)

  pub kept-all : (old now : List Event) → ((i : ℕ) → i < length places → slice_index places i < length old)
      → AreKeptTo old now places (length places) → map Some (take (length places) now) ≡ map (slice_get old) places
  kept-all old now inside w = all places now (let n = w.long in let m = few (length old) (length places) refl inside in omega (arith, n, m))
      (λ k d l. w.kept k d l) inside where
        all : (ps : List ℕ) (xs : List Event) → length ps ≤ length xs
            → ((k : ℕ) (d : Event) → k < length ps → get_or xs k d ≡ get_or old (slice_index ps k) d)
            → ((k : ℕ) → k < length ps → slice_index ps k < length old) → map Some (take (length ps) xs) ≡ map (slice_get old) ps
        all [] xs l h b = refl
        all (p ∷ ps) [] l h b = absurd (omega (arith, l))
        all (p ∷ ps) (x ∷ xs) l h b =
            ap₂ (λ (o : Option Event) (os : List (Option Event)). o ∷ os)
            (ap (λ (e : Event). Some e) (h zero x (omega arith)) ∙ sym (slice_get-get_or old p x (b zero (omega arith))))
            (all ps xs (omega (arith, l)) (λ k d m. h (suc k) d (omega (arith, m))) (λ k m. b (suc k) (omega (arith, m))))

-- a list of which so many first ones are changed
abbrev pub changed_to : {X : Type 0} → (X → X) → List X → ℕ → List X
changed_to f ys k = map f (take k ys) ++ drop k ys

module _ {X : Type 0} (f : X → X) where
  -- the next one is as it was
  pub next-is : (ys : List X) (k : ℕ) (d : X) → get_or (changed_to f ys k) k d ≡ get_or ys k d
  next-is [] zero d = refl
  next-is [] (suc k) d = refl
  next-is (y ∷ ys) zero d = refl
  next-is (y ∷ ys) (suc k) d = next-is ys k d

  -- and once it is changed there is one more
  pub changed-next : (ys : List X) (k : ℕ) (d : X) → k < length ys → set (changed_to f ys k) k (f (get_or ys k d)) ≡ changed_to f ys (k + 1)
  changed-next [] k d l = absurd (omega arith)
  changed-next (y ∷ ys) zero d l = refl
  changed-next (y ∷ ys) (suc k) d l = let e : suc k + 1 ≡ suc (k + 1) = omega arith in
      rw e (ap (λ zs. f y ∷ zs) (changed-next ys k d (omega arith)))

-- what is seen of the one at a place
pub at-seen : (xs : List Event) (k : ℕ) (d : Event) → get_or (map seen xs) k (seen d) ≡ seen (get_or xs k d)
at-seen [] k d = refl
at-seen (x ∷ xs) zero d = refl
at-seen (x ∷ xs) (suc k) d = at-seen xs k d

-- the next one is changed
pub seen-next : (f : Seen → Seen) (old now : List Event) (k : ℕ) (d new : Event) → k < length old → map seen now
    ≡ changed_to f (map seen old) k → seen new ≡ f (seen (get_or now k d)) → map seen (set now k new) ≡ changed_to f (map seen old) (k + 1)
seen-next f old now k d new l same is =
    let long = length-map old seen in
    map-set seen now k new
    ∙ ap₂ (λ (xs : List Seen) (x : Seen). set xs k x) same
    (is ∙ ap f (sym (at-seen now k d) ∙ ap (λ (xs : List Seen). get_or xs k (seen d)) same ∙ next-is f (map seen old) k (seen d)))
    ∙ changed-next f (map seen old) k (seen d) (omega (arith, l, long))
