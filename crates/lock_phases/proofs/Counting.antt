-- How many elements of a list pass a test.
use Rattle.std.proofs.Common.{◌≡◌, ◌+◌, ◌≤◌, Bool, true, false, cond, List, [], ◌∷◌, length, Option, Some, None, refl, ap, ◌∙◌, arith}
use Rattle.std.specs.Prelude.{count_by, filter_map, Contains}
use Rattle.std.specs.List.{cons_option}
use Rattle.std.proofs.lemmas.List.Sums.{sum_by-cons}
use Rattle.step_trace.proofs.ListMembers.{Contains-head, Contains-rest}

-- how many pass of a first element and the rest
count_by-cons : {X : Type 0} (p : X → Bool) (x : X) (xs : List X) → count_by p (x ∷ xs) ≡ cond (p x) 1 0 + count_by p xs
count_by-cons p x xs = sum_by-cons (λ y. cond (p y) 1 0) x xs

-- a test that passes less often counts less
pub count_by-le : {X : Type 0} (p q : X → Bool) (xs : List X) → ((x : X) → p x ≡ true → q x ≡ true) → count_by p xs ≤ count_by q xs
count_by-le p q [] f = omega arith
count_by-le p q (x ∷ xs) f =
    rw (count_by-cons p x xs, count_by-cons q x xs) (go (p x) (q x) (f x) (count_by-le p q xs f))
  where
    go : (a b : Bool) → (a ≡ true → b ≡ true) → count_by p xs ≤ count_by q xs → cond a 1 0 + count_by p xs ≤ cond b 1 0 + count_by q xs
    go true true g l = omega arith
    go true false g l = let e = g refl in cc
    go false b g l = omega arith

-- the elements that pass one of two tests that never pass together
pub count_by-disjoint : {X : Type 0} (p q : X → Bool) (xs : List X) → ((x : X) → p x ≡ true → q x ≡ true → ⊥)
    → count_by p xs + count_by q xs ≤ length xs
count_by-disjoint p q [] f = omega arith
count_by-disjoint p q (x ∷ xs) f =
    rw (count_by-cons p x xs, count_by-cons q x xs) (go (p x) (q x) (f x) (count_by-disjoint p q xs f))
  where
    go : (a b : Bool) → (a ≡ true → b ≡ true → ⊥) → count_by p xs + count_by q xs ≤ length xs
        → (cond a 1 0 + count_by p xs) + (cond b 1 0 + count_by q xs) ≤ length (x ∷ xs)
    go true true g l = absurd (g refl refl)
    go true false g l = omega arith
    go false true g l = omega arith
    go false false g l = omega arith

-- What elements give, at most one each, passes a test no more often than the elements pass another test
-- that holds whenever this one does.
pub count_by-filter_map : {X Y : Type 0} (p : Y → Bool) (q : X → Bool) (h : X → Option Y) (xs : List X)
    → ((x : X) (y : Y) → h x ≡ Some y → p y ≡ true → q x ≡ true) → count_by p (filter_map h xs) ≤ count_by q xs
count_by-filter_map p q h [] f = omega arith
count_by-filter_map {Y = Y} p q h (x ∷ xs) f =
    rw (count_by-cons q x xs) (go (h x) refl (count_by-filter_map p q h xs f))
  where
    one : (a b : Bool) → (a ≡ true → b ≡ true) → cond a 1 0 ≤ cond b 1 0
    one true true g = omega arith
    one true false g = let e = g refl in cc
    one false b g = omega arith

    go : (o : Option Y) → h x ≡ o → count_by p (filter_map h xs) ≤ count_by q xs
        → count_by p (cons_option o (filter_map h xs)) ≤ cond (q x) 1 0 + count_by q xs
    go None e l = omega arith
    go (Some y) e l = let c = one (p y) (q x) (f x y e) in rw (count_by-cons p y (filter_map h xs)) (omega arith)

-- It passes no less often if each element on which the test passes gives something that passes.
pub count_by-le_filter_map : {X Y : Type 0} (p : Y → Bool) (q : X → Bool) (h : X → Option Y) (xs : List X)
    → ((x : X) → Contains xs x → q x ≡ true → (y : Y) × (h x ≡ Some y) × (p y ≡ true)) → count_by q xs ≤ count_by p (filter_map h xs)
count_by-le_filter_map p q h [] f = omega arith
count_by-le_filter_map {Y = Y} p q h (x ∷ xs) f = rw (count_by-cons q x xs)
    (go (q x) (h x) (f x (Contains-head x xs)) (count_by-le_filter_map p q h xs (λ z d t. f z (Contains-rest x z xs d) t)))
  where
    passes : (y z : Y) → Some y ≡ Some z → p z ≡ true → p y ≡ true
    passes y z e t = let same : y ≡ z = cc in ap p same ∙ t

    go : (b : Bool) (o : Option Y) → (b ≡ true → (y : Y) × (o ≡ Some y) × (p y ≡ true)) → count_by q xs ≤ count_by p (filter_map h xs)
        → cond b 1 0 + count_by q xs ≤ count_by p (cons_option o (filter_map h xs))
    go true None g l = let clash = (g refl).1 in cc
    go true (Some y) g l = let r = g refl in rw (count_by-cons p y (filter_map h xs), passes y r.0 r.1 r.2) (omega arith)
    go false None g l = omega arith
    go false (Some y) g l = rw (count_by-cons p y (filter_map h xs)) (omega arith)
