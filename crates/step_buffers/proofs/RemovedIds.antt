-- Rising ids: their parts, and searches of them. Ids that are taken out of a rising list: from its front, its back, or
-- between others.
use Rattle.std.proofs.Common.{ℕ, ◌≡◌, ◌≢◌, ◌+◌, ◌-◌, ◌<◌, ◌≤◌, inl, inr, suc, List, length, get_or, take, drop, Bool}
use Rattle.std.proofs.Common.{true, ◌==◌, Result, Ok, Err, refl, sym, ◌∙◌, subst, arith, eq-eqb, [], ◌∷◌, ◌++◌, filter}
use Rattle.std.proofs.Common.{min, not, ◌||◌, ap}
use Rattle.std.specs.Prelude.{MatchResult, Contains}
use Rattle.std.specs.Result.{is_ok}
use Rattle.std.specs.List.Sorted.{IsStrictlyIncreasing}
use Rattle.std.proofs.lemmas.Bool.{cases_lt, eqb-true, ne_eqb, false_from_ne_true}
use Rattle.std.proofs.lemmas.List.{length-take, length-drop, get_or-take, get_or-drop, get_or_default, length-append}
use Rattle.std.proofs.lemmas.List.{length-take-le, take-append-drop, append-nil, drop_at, drop_more, take_more}
use Rattle.std.proofs.lemmas.List.{append_assoc, take-append-le, drop-append-le, drop-take, drop-drop}
use Rattle.step_buffers.proofs.Common.{list_any-found, list_any-at, Contains-head, Contains-rest, is_in}
use Rattle.round_model.proofs.RisingLists.{rising-later}
use lib.Seq.{paste}
use Rattle.std.proofs.Math.Bool.{or-true, or-false}
use Rattle.std.proofs.Math.Seq.{take-append-add, drop-append-add, drop-append_seam}
use Rattle.std.proofs.lemmas.List.Elements.{filter-append}
use Rattle.std.proofs.lemmas.List.Folds.{list_any-append}

-- each element is below the later ones
rising-before : (xs : List ℕ) (i j : ℕ) → IsStrictlyIncreasing xs → i < j → j < length xs
    → get_or xs i 0 < get_or xs j 0
rising-before xs i j rise l h =
    let e : i + suc (j - suc i) ≡ j = omega arith in
    subst (λ n. get_or xs i 0 < get_or xs n 0) e (rising-later xs rise i (j - suc i) (omega arith))

-- and no element is above a later one
pub rising-nondecreasing : (xs : List ℕ) → IsStrictlyIncreasing xs → (i j : ℕ) → i ≤ j → j < length xs
    → get_or xs i 0 ≤ get_or xs j 0
rising-nondecreasing xs rise i j l h = elim (cases_lt i j) [
  | inl b ↦ (let before = rising-before xs i j rise b h in omega arith)
  | inr b ↦ (let e : get_or xs i 0 ≡ get_or xs j 0 = ap (λ n. get_or xs n 0) (let f : i ≡ j = omega arith in f) in omega arith)
]

pub is_in-member : (xs : List ℕ) (x : ℕ) → Contains xs x → is_in xs x ≡ true
is_in-member xs x d = list_any-at (λ i. i == x) xs x d (eq-eqb x x refl)

pub Contains-from_is_in : (xs : List ℕ) (x : ℕ) → is_in xs x ≡ true → Contains xs x
Contains-from_is_in xs x h =
    let r = list_any-found (λ i. i == x) xs h in
    subst (Contains xs) (eqb-true r.0 x r.2) r.1

not-found : (xs : List ℕ) (x i : ℕ) → ((k : ℕ) → k < i → get_or xs k 0 < x)
    → ((k : ℕ) → i ≤ k → k < length xs → x < get_or xs k 0) → Contains xs x → ⊥
not-found xs x i below above d =
    let at : get_or xs d.0 0 ≡ x = sym (get_or_default xs d.0 x 0 d.1) ∙ d.2 in
    elim (cases_lt d.0 i) [
      | inl l ↦ (let b = below d.0 l in omega arith)
      | inr l ↦ (let b = above d.0 l d.1 in omega arith)
    ]

-- a binary search finds just the members
pub is_in-searched : (xs : List ℕ) (x : ℕ) (r : Result ℕ ℕ) → MatchResult r (λ i. (i < length xs) × (get_or xs i 0 ≡ x)) (λ i.
    (i ≤ length xs) × ((k : ℕ) → k < i → get_or xs k 0 < x) × ((k : ℕ) → i ≤ k → k < length xs → x < get_or xs k 0)) → is_ok r ≡ is_in xs x
is_in-searched xs x (Ok i) h = sym (is_in-member xs x (i, h.0, get_or_default xs i x 0 h.0 ∙ h.1))
is_in-searched xs x (Err i) h =
    sym (false_from_ne_true (is_in xs x) (λ e. not-found xs x i h.1 h.2 (Contains-from_is_in xs x e)))

-- the parts of a rising list rise
pub rising-drop : (xs : List ℕ) (n : ℕ) → IsStrictlyIncreasing xs → IsStrictlyIncreasing (drop n xs)
rising-drop xs n rise = λ k inside.
    let long = length-drop n xs in
    let e : n + (k + 1) ≡ n + k + 1 = omega arith in
    rw (get_or-drop n xs k 0, get_or-drop n xs (k + 1) 0, e) (rise (n + k) (omega arith))

pub rising-take : (xs : List ℕ) (n : ℕ) → IsStrictlyIncreasing xs → IsStrictlyIncreasing (take n xs)
rising-take xs n rise = λ k inside.
    let short = length-take n xs in
    rw (get_or-take n xs k 0 (omega arith), get_or-take n xs (k + 1) 0 (omega arith)) (rise k (omega arith))

-- filters by tests that agree on the elements
pub filter-agree : (f g : ℕ → Bool) (xs : List ℕ) → ((x : ℕ) → Contains xs x → f x ≡ g x) → filter f xs ≡ filter g xs
filter-agree f g [] same = refl
filter-agree f g (x ∷ xs) same =
    rw (same x (Contains-head x xs), filter-agree f g xs (λ y d. same y (Contains-rest x y xs d))) refl

-- a filter that all elements pass
pub filter-all : (f : ℕ → Bool) (xs : List ℕ) → ((x : ℕ) → Contains xs x → f x ≡ true) → filter f xs ≡ xs
filter-all f [] pass = refl
filter-all f (x ∷ xs) pass =
    rw (pass x (Contains-head x xs), filter-all f xs (λ y d. pass y (Contains-rest x y xs d))) refl

-- what no element is isn't in a list
not_in : (ids : List ℕ) (s : ℕ) → ((k : ℕ) → k < length ids → get_or ids k 0 ≢ s) → not (is_in ids s) ≡ true
not_in ids s other = ap not (false_from_ne_true (is_in ids s) (λ e.
    let d = Contains-from_is_in ids s e in other d.0 d.1 (sym (get_or_default ids d.0 s 0 d.1) ∙ d.2)))

-- what is less than the first of rising ids is none of them
below-first : (ids : List ℕ) (s : ℕ) → IsStrictlyIncreasing ids → s < get_or ids 0 0 → not (is_in ids s) ≡ true
below-first ids s rise low =
    not_in ids s (λ k l at. let later = rising-nondecreasing ids rise 0 k (omega arith) l in omega arith)

-- the elements of the front of a list that are below a bound
front-below : (xs : List ℕ) (n bound s : ℕ) → n ≤ length xs → ((k : ℕ) → k < n → get_or xs k 0 < bound)
    → Contains (take n xs) s → s < bound
front-below xs n bound s within below d =
    let short : length (take n xs) ≡ min n (length xs) = length-take n xs in
    let inside = d.1 in
    let at : get_or (take n xs) d.0 0 ≡ s = sym (get_or_default (take n xs) d.0 s 0 d.1) ∙ d.2 in
    let same : get_or (take n xs) d.0 0 ≡ get_or xs d.0 0 = get_or-take n xs d.0 0 (omega arith) in
    let low = below d.0 (omega arith) in
    omega arith

-- what is left of a buffer: what is below the first id taken, and what is left of the rest
left-of_buffer : (ids xs : List ℕ) (n bound : ℕ) → IsStrictlyIncreasing ids → bound ≡ get_or ids 0 0 → n ≤ length xs
    → ((k : ℕ) → k < n → get_or xs k 0 < bound)
    → filter (λ s. not (is_in ids s)) xs ≡ take n xs ++ filter (λ s. not (is_in ids s)) (drop n xs)
left-of_buffer ids xs n bound rise first within below =
    let f : ℕ → Bool = λ s. not (is_in ids s) in
    ap (filter f) (sym (take-append-drop n xs))
    ∙ filter-append f (take n xs) (drop n xs)
    ∙ ap (λ ys. ys ++ filter f (drop n xs)) (filter-all f (take n xs) (λ s d. below-first ids s rise (let low =
    front-below xs n bound s within below d in omega arith)))

-- the elements of the back of a list that are above a bound
back-above : (xs : List ℕ) (n bound s : ℕ) → ((k : ℕ) → n ≤ k → k < length xs → bound < get_or xs k 0)
    → Contains (drop n xs) s → bound < s
back-above xs n bound s above d =
    let long = length-drop n xs in
    let inside = d.1 in
    let at : get_or (drop n xs) d.0 0 ≡ s = sym (get_or_default (drop n xs) d.0 s 0 d.1) ∙ d.2 in
    let same : get_or (drop n xs) d.0 0 ≡ get_or xs (n + d.0) 0 = get_or-drop n xs d.0 0 in
    let high = above (n + d.0) (omega arith) (omega arith) in
    omega arith

-- an id that is taken from the front of what waits
drops-first : (x : ℕ) (ids xs : List ℕ) → ((s : ℕ) → Contains xs s → x < s)
    → filter (λ s. not (is_in (x ∷ ids) s)) (x ∷ xs) ≡ filter (λ s. not (is_in ids s)) xs
drops-first x ids xs above =
    rw (eq-eqb x x refl) (
    filter-agree (λ s. not (is_in (x ∷ ids) s)) (λ s. not (is_in ids s)) xs
    (λ s d. (let high = above s d in rw (ne_eqb x s (λ e. (let f : x ≡ s = e in omega arith))) refl)))

pub shared-first : (ids xs : List ℕ) (k : ℕ) → IsStrictlyIncreasing xs → k < length ids → k < length xs
    → get_or xs k 0 ≡ get_or ids k 0
    → filter (λ s. not (is_in (drop k ids) s)) (drop k xs)
    ≡ filter (λ s. not (is_in (drop (k + 1) ids) s)) (drop (k + 1) xs)
shared-first ids xs k rise a b same =
    let x = get_or ids k 0 in
    let rest = drop (k + 1) ids in
    ap (λ is. filter (λ s. not (is_in is s)) (drop k xs)) (drop_more ids k 0 a)
    ∙ ap (filter (λ s. not (is_in (x ∷ rest) s))) (drop_more xs k 0 b ∙ ap (λ y. y ∷ drop (k + 1) xs) same)
    ∙ drops-first x rest (drop (k + 1) xs)
    (λ s d. back-above xs (k + 1) (get_or ids k 0) s
    (λ j l h. subst (λ n. n < get_or xs j 0) same (rising-before xs k j rise (omega arith) h)) d)

is_in-more : (ids : List ℕ) (x s : ℕ) → is_in (ids ++ x ∷ []) s ≡ (is_in ids s || x == s)
is_in-more ids x s = list_any-append (λ i. i == s) ids (x ∷ []) ∙ ap (λ b. is_in ids s || b) (or-false (x == s))

-- an id that is taken from the back
drops-last : (x : ℕ) (ids xs : List ℕ) → ((s : ℕ) → Contains xs s → s < x)
    → filter (λ s. not (is_in (ids ++ x ∷ []) s)) (xs ++ x ∷ []) ≡ filter (λ s. not (is_in ids s)) xs
drops-last x ids xs below =
    let f : ℕ → Bool = λ s. not (is_in (ids ++ x ∷ []) s) in
    let inside : is_in (ids ++ x ∷ []) x ≡ true = is_in-more ids x x ∙ rw (eq-eqb x x refl) (or-true (is_in ids x)) in
    filter-append f xs (x ∷ [])
    ∙ rw inside (append-nil (filter f xs))
    ∙ filter-agree f (λ s. not (is_in ids s)) xs
    (λ s d. (let low = below s d in
    ap not (is_in-more ids x s ∙ rw (ne_eqb x s (λ e. (let g : x ≡ s = e in omega arith))) (or-false (is_in ids s)))))

pub shared-last : (ids xs : List ℕ) (n m : ℕ) → IsStrictlyIncreasing xs → n < length ids → m < length xs
    → get_or xs m 0 ≡ get_or ids n 0
    → filter (λ s. not (is_in (take (n + 1) ids) s)) (take (m + 1) xs)
    ≡ filter (λ s. not (is_in (take n ids) s)) (take m xs)
shared-last ids xs n m rise a b same =
    rw (take_more ids n 0 a, take_more xs m 0 b, same) (
    drops-last (get_or ids n 0) (take n ids) (take m xs)
    (λ s d. front-below xs m (get_or ids n 0) s (omega arith)
    (λ j l. subst (λ x. get_or xs j 0 < x) same (rising-before xs j m rise l b)) d))

-- what is above the last of rising ids is none of them
above-last : (ids : List ℕ) (s : ℕ) → IsStrictlyIncreasing ids → get_or ids (length ids - 1) 0 < s
    → not (is_in ids s) ≡ true
above-last ids s rise high =
    not_in ids s (λ k l at.
    let later = rising-nondecreasing ids rise k (length ids - 1) (omega arith) (omega arith) in omega arith)

-- what is left of a list: what is below the first id taken, what is left up to the last, and what is above it
pub left-between : (ids xs : List ℕ) (n m : ℕ) → IsStrictlyIncreasing ids → n ≤ length xs
    → ((k : ℕ) → k < n → get_or xs k 0 < get_or ids 0 0)
    → ((k : ℕ) → m ≤ k → k < length (drop n xs) → get_or ids (length ids - 1) 0 < get_or (drop n xs) k 0)
    → filter (λ s. not (is_in ids s)) xs
    ≡ take n xs ++ (filter (λ s. not (is_in ids s)) (take m (drop n xs)) ++ drop m (drop n xs))
left-between ids xs n m rise within below above =
    let f : ℕ → Bool = λ s. not (is_in ids s) in
    let rest = drop n xs in
    left-of_buffer ids xs n (get_or ids 0 0) rise refl within below
    ∙ ap (λ ys. take n xs ++ ys) (
    ap (filter f) (sym (take-append-drop m rest))
    ∙ filter-append f (take m rest) (drop m rest)
    ∙ ap (λ ys. filter f (take m rest) ++ ys)
    (filter-all f (drop m rest) (λ s d. above-last ids s rise (back-above rest m (get_or ids (length ids - 1) 0) s above d))))

-- a list in whose part the others were moved to the front, without the gap after them
pub without-gap : (old part : List ℕ) (start n m r : ℕ) → start + n ≤ length old → length part ≡ m → r ≤ m → drop start
    (take (start + n + r) (take (start + n) old ++ (part ++ drop m (drop (start + n) old)))) ++ drop (start + n + m) (take (start + n) old
    ++ (part ++ drop m (drop (start + n) old))) ≡ take n (drop start old) ++ (take r part ++ drop m (drop n (drop start old)))
without-gap old part start n m r within long short =
    let a = start + n in
    let front = take a old in
    let size : length front ≡ a = length-take-le a old within in
    let rest = drop m (drop a old) in
    let one : take (a + r) (front ++ (part ++ rest)) ≡ front ++ take r part =
    subst (λ k. take (k + r) (front ++ (part ++ rest)) ≡ front ++ take r part) size
    (take-append-add front (part ++ rest) r ∙ ap (λ ys. front ++ ys) (take-append-le r part rest (omega arith))) in
    let two : drop (a + m) (front ++ (part ++ rest)) ≡ rest =
    subst (λ k. drop (k + m) (front ++ (part ++ rest)) ≡ rest) size (drop-append-add front (part ++ rest) m
    ∙ subst (λ k. drop k (part ++ rest) ≡ rest) long (drop-append_seam part rest)) in
    ap (λ ys. drop start ys ++ drop (a + m) (front ++ (part ++ rest))) one
    ∙ ap (λ ys. drop start (front ++ take r part) ++ ys) two
    ∙ ap (λ ys. ys ++ rest) (drop-append-le start front (take r part) (omega arith) ∙ ap (λ ys. ys ++ take r part) (drop-take start n old))
    ∙ append_assoc (take n (drop start old)) (take r part) rest
    ∙ ap (λ ys. take n (drop start old) ++ (take r part ++ drop m ys)) (sym (drop-drop n start old))

-- what is before a gap, moved on to its end
pub moved-on : (old : List ℕ) (start kept until : ℕ) → start ≤ kept → kept ≤ until → until ≤ length old
    → drop (start + (until - kept)) (paste old (start + (until - kept)) (drop start old) (kept - start))
    ≡ drop start (take kept old) ++ drop until old
moved-on old start kept until first gap within =
    let at = start + (until - kept) in
    let size : length (take at old) ≡ at = length-take-le at old (omega arith) in
    let moved = take (kept - start) (drop start old) in
    let rest = drop (at + (kept - start)) old in
    let same : start + (kept - start) ≡ kept = omega arith in
    let past : at + (kept - start) ≡ until = omega arith in
    ap (drop at) (append_assoc (take at old) moved rest)
    ∙ drop_at (take at old) (moved ++ rest) at size
    ∙ ap (λ ys. ys ++ rest) (sym (drop-take start (kept - start) old) ∙ ap (λ k. drop start (take k old)) same)
    ∙ ap (λ k. drop start (take kept old) ++ drop k old) past

-- a list of which a part is written over is as long as before
pub length-written : (xs part : List ℕ) (at m : ℕ) → at + m ≤ length xs → length part ≡ m
    → length (take at xs ++ (part ++ drop m (drop at xs))) ≡ length xs
length-written xs part at m within long =
    let one = length-append (take at xs) (part ++ drop m (drop at xs)) in
    let two = length-append part (drop m (drop at xs)) in
    let three = length-take-le at xs (omega arith) in
    omega (arith, length-drop at xs, length-drop m (drop at xs))

-- what a list without its last elements has after its first ones
pub inner-part : (xs : List ℕ) (start n back : ℕ) → start + n ≤ length xs → back ≤ length (drop n (drop start xs))
    → drop (start + n) (take (length xs - back) xs)
    ≡ take (length (drop n (drop start xs)) - back) (drop n (drop start xs))
inner-part xs start n back first last =
    let rest = drop n (drop start xs) in
    let long = length-drop start xs in
    let e : length xs - back ≡ start + n + (length rest - back) = omega (arith, length-drop n (drop start xs)) in
    ap (λ k. drop (start + n) (take k xs)) e
    ∙ drop-take (start + n) (length rest - back) xs
    ∙ ap (take (length rest - back)) (sym (drop-drop n start xs))
