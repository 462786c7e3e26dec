-- Elements of a list by its head and its rest, of joined lists, of what a function gives, and found by a count.
use Rattle.std.proofs.Common.{ℕ, ◌≡◌, ◌<◌, ◌≤◌, ◌⊎◌, inl, inr, Bool, true, List, [], ◌∷◌, length, get_or, filter, Option, Some, None, refl, sym, ap, subst, ◌∙◌, zero, suc, arith}
use Rattle.std.specs.Prelude.{Contains, count_by, filter_map}
use Rattle.std.specs.List.{flat_map, cons_option}
use Rattle.std.proofs.lemmas.List.Elements.{Contains-append_left, Contains-append_right, Contains-append_cases}
use Rattle.std.proofs.lemmas.List.Sums.{length-filter}
use Rattle.step_trace.proofs.ListMembers.{Contains-head, Contains-rest, Contains-nil, Contains-from_filter}

-- an element is the first, or one of the rest
pub Contains-cons_cases : {X : Type 0} (x z : X) (xs : List X) → Contains (x ∷ xs) z → (z ≡ x) ⊎ Contains xs z
Contains-cons_cases x z xs c = go c.0 c.1 c.2
  where
    go : (k : ℕ) → k < length (x ∷ xs) → get_or (x ∷ xs) k z ≡ z → (z ≡ x) ⊎ Contains xs z
    go zero l e = inl (sym e)
    go (suc k) l e = inr (k, omega arith, e)

-- if some elements pass, there is one
pub count_by-found : {X : Type 0} (p : X → Bool) (xs : List X) → 1 ≤ count_by p xs → (x : X) × Contains xs x × (p x ≡ true)
count_by-found {X} p xs l = go (filter p xs) refl (rw (length-filter p xs) l)
  where
    go : (kept : List X) → filter p xs ≡ kept → 1 ≤ length kept → (x : X) × Contains xs x × (p x ≡ true)
    go [] e h = absurd (omega arith)
    go (y ∷ ys) e h = let r = Contains-from_filter p xs y (subst (λ zs. Contains zs y) (sym e) (Contains-head y ys)) in (y, r.0, r.1)

-- what is in the list of an element is in the joined lists
pub Contains-flat_map : {X A : Type 0} (f : X → List A) (xs : List X) (x : X) (a : A)
    → Contains xs x → Contains (f x) a → Contains (flat_map f xs) a
Contains-flat_map f [] x a c d = absurd (Contains-nil x c)
Contains-flat_map f (y ∷ ys) x a c d = elim (Contains-cons_cases y x ys c) [
  | inl e ↦ Contains-append_left (f y) (flat_map f ys) a (subst (λ z. Contains (f z) a) e d)
  | inr rest ↦ Contains-append_right (f y) (flat_map f ys) a (Contains-flat_map f ys x a rest d)
]

-- what is given comes from an element
pub Contains-from_filter_map : {X Y : Type 0} (h : X → Option Y) (xs : List X) (y : Y)
    → Contains (filter_map h xs) y → (x : X) × Contains xs x × (h x ≡ Some y)
Contains-from_filter_map h [] y c = absurd (Contains-nil y c)
Contains-from_filter_map {X} {Y} h (x ∷ xs) y c = go (h x) refl c (λ d. Contains-from_filter_map h xs y d)
  where
    rest : (z : X) × Contains xs z × (h z ≡ Some y) → (z : X) × Contains (x ∷ xs) z × (h z ≡ Some y)
    rest r = (r.0, Contains-rest x r.0 xs r.1, r.2)

    go : (o : Option Y) → h x ≡ o → Contains (cons_option o (filter_map h xs)) y
        → (Contains (filter_map h xs) y → (z : X) × Contains xs z × (h z ≡ Some y)) → (z : X) × Contains (x ∷ xs) z × (h z ≡ Some y)
    go None e d f = rest (f d)
    go (Some w) e d f = elim (Contains-cons_cases w y (filter_map h xs) d) [
      | inl s ↦ (x, Contains-head x xs, e ∙ ap Some (sym s))
      | inr k ↦ rest (f k)
    ]

-- an element gives what is given
pub Contains-filter_map : {X Y : Type 0} (h : X → Option Y) (xs : List X) (x : X) (y : Y)
    → Contains xs x → h x ≡ Some y → Contains (filter_map h xs) y
Contains-filter_map h [] x y c e = absurd (Contains-nil x c)
Contains-filter_map {X} {Y} h (z ∷ xs) x y c e = go (h z) refl (Contains-cons_cases z x xs c) (λ d. Contains-filter_map h xs x y d e)
  where
    go : (o : Option Y) → h z ≡ o → (x ≡ z) ⊎ Contains xs x
        → (Contains xs x → Contains (filter_map h xs) y) → Contains (cons_option o (filter_map h xs)) y
    go None s (inl d) f = let clash = sym s ∙ ap h (sym d) ∙ e in cc
    go None s (inr d) f = f d
    go (Some w) s (inl d) f = let g : Some w ≡ Some y = sym s ∙ ap h (sym d) ∙ e in let same : w ≡ y = cc in (zero, omega arith, same)
    go (Some w) s (inr d) f = Contains-rest w y (filter_map h xs) (f d)

-- what is in the joined lists is in the list of an element
pub Contains-from_flat_map : {X A : Type 0} (f : X → List A) (xs : List X) (a : A)
    → Contains (flat_map f xs) a → (x : X) × Contains xs x × Contains (f x) a
Contains-from_flat_map f [] a c = absurd (Contains-nil a c)
Contains-from_flat_map f (x ∷ xs) a c = elim (Contains-append_cases (f x) (flat_map f xs) a c) [
  | inl d ↦ (x, Contains-head x xs, d)
  | inr d ↦ let r = Contains-from_flat_map f xs a d in (r.0, Contains-rest x r.0 xs r.1, r.2)
]
