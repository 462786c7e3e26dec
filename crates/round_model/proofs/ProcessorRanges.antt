-- Lists with an element for each number of a range, as the processors are.
use Rattle.std.proofs.Common.{ℕ, zero, suc, ◌≡◌, ◌+◌, ◌<◌, ◌≤◌, List, [], ◌∷◌, ◌++◌, length, get_or, map, Option, Some, None, Vec, All, refl, arith, sym, ap, subst, ◌∙◌}
use Rattle.std.specs.List.{range_with_len, filter_map}
use Rattle.std.specs.List.Sorted.{IsStrictlyIncreasing}
use Rattle.std.specs.Option.{option_to_list}
use Rattle.std.proofs.lemmas.List.{map-id, length-map, get_or-map, same_lists, get_or_default}
use Rattle.std.proofs.lemmas.List.FromFn.{map-range_with_len_more, get_or-map-range_with_len, length-map-range_with_len, length-range_with_len, get_or-range_with_len}
use Rattle.std.proofs.lemmas.List.Elements.{filter_map-append, All-from_get_or}
use Rattle.round_model.specs.HeardSets.{rows_of}

-- a range with one more number
pub range_with_len-more : (a n j : ℕ) → a + n ≡ j → range_with_len a (n + 1) ≡ range_with_len a n ++ j ∷ []
range_with_len-more a n j is = sym (map-id (range_with_len a (n + 1)))
    ∙ map-range_with_len_more (λ x. x) a n j is ∙ ap (λ xs. xs ++ j ∷ []) (map-id (range_with_len a n))

-- the list with f of each number of a range is known by its elements
pub map-range_with_len-from : {X : Type 0} (f : ℕ → X) (xs : List X) (a n : ℕ) (d : X)
    → length xs ≡ n → ((k : ℕ) → k < n → get_or xs k d ≡ f (a + k)) → xs ≡ map f (range_with_len a n)
map-range_with_len-from f xs a n d long each =
    same_lists xs (map f (range_with_len a n)) (long ∙ sym (length-map-range_with_len f a n))
    (λ k e h. get_or_default xs k e d h ∙ each k (omega arith) ∙ sym (get_or-map-range_with_len f a n k (a + k) e (omega arith) refl))

-- functions that agree on a range
pub map-range_with_len-agree : {X : Type 0} (f g : ℕ → X) (a n : ℕ)
    → ((p : ℕ) → a ≤ p → p < a + n → f p ≡ g p) → map f (range_with_len a n) ≡ map g (range_with_len a n)
map-range_with_len-agree f g a zero same = refl
map-range_with_len-agree f g a (suc n) same =
    rw (same a (omega arith) (omega arith), map-range_with_len-agree f g (a + 1) n (λ p l h. same p (omega arith) (omega arith))) refl

-- functions that agree on a range give the same if they give something
pub filter_map-range_with_len-agree : {X : Type 0} (f g : ℕ → Option X) (a n : ℕ)
    → ((p : ℕ) → a ≤ p → p < a + n → f p ≡ g p) → filter_map f (range_with_len a n) ≡ filter_map g (range_with_len a n)
filter_map-range_with_len-agree f g a zero same = refl
filter_map-range_with_len-agree f g a (suc n) same = rw
    (same a (omega arith) (omega arith), filter_map-range_with_len-agree f g (a + 1) n (λ p l h. same p (omega arith) (omega arith))) refl

-- what f gives of a range with one more number
pub filter_map-range_with_len-more : {X : Type 0} (f : ℕ → Option X) (a n j : ℕ) (r : Option X) → a + n ≡ j → f j ≡ r
    → filter_map f (range_with_len a (n + 1)) ≡ filter_map f (range_with_len a n) ++ option_to_list r
filter_map-range_with_len-more {X = X} f a n j r is gives = ap (filter_map f) (range_with_len-more a n j is)
    ∙ filter_map-append f (range_with_len a n) (j ∷ []) ∙ ap (λ xs. filter_map f (range_with_len a n) ++ xs) (go r gives)
  where
    go : (r : Option X) → f j ≡ r → filter_map f (j ∷ []) ≡ option_to_list r
    go None e = rw e refl
    go (Some x) e = rw e refl

-- a range rises
pub IsStrictlyIncreasing-range_with_len : (a n : ℕ) → IsStrictlyIncreasing (range_with_len a n)
IsStrictlyIncreasing-range_with_len a n k h =
    let long : length (range_with_len a n) ≡ n = length-range_with_len a n in
    omega (arith, get_or-range_with_len a n k 0 (omega arith), get_or-range_with_len a n (k + 1) 0 (omega arith))

-- each number of a range is in it
pub All-range_with_len : (a n : ℕ) → All (λ p. (a ≤ p) × (p < a + n)) (range_with_len a n)
All-range_with_len a n = All-from_get_or (λ p. (a ≤ p) × (p < a + n)) (range_with_len a n) 0 (λ k h.
    let long : length (range_with_len a n) ≡ n = length-range_with_len a n in
    let is : get_or (range_with_len a n) k 0 ≡ a + k = get_or-range_with_len a n k 0 (omega arith) in
    (omega arith, omega arith))

-- what holds of f of each element
pub All-from_map : {X Y : Type 0} (P : Y → Type 0) (f : X → Y) (xs : List X) → All P (map f xs) → All (λ x. P (f x)) xs
All-from_map P f xs all k d h = subst P (get_or-map f xs k d (f d) h) (all k (f d) (omega (arith, length-map xs f)))

-- rows that are one for each number of a range
pub rows_of-length : {X A : Type 0} (rows : List (Vec X A)) (f : ℕ → List X) (a n : ℕ)
    → rows_of rows ≡ map f (range_with_len a n) → length rows ≡ n
rows_of-length rows f a n are = sym (length-map rows (λ row. row.items)) ∙ ap length are ∙ length-map-range_with_len f a n

-- the row of one number
pub rows_of-at : {X A : Type 0} (rows : List (Vec X A)) (f : ℕ → List X) (a n i : ℕ) (row : Vec X A)
    → rows_of rows ≡ map f (range_with_len a n) → i < n → row ≡ get_or rows i row → row.items ≡ f (a + i)
rows_of-at rows f a n i row are h is =
    ap (λ r. r.items) is
    ∙ sym (get_or-map (λ r. r.items) rows i row row.items (omega (arith, rows_of-length rows f a n are)))
    ∙ ap (λ lists. get_or lists i row.items) are
    ∙ get_or-map-range_with_len f a n i (a + i) row.items h refl
