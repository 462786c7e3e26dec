-- Members of lists, and of lists of numbers that rise.
use Rattle.std.proofs.Common.{ℕ, ◌≡◌, ◌+◌, ◌<◌, ◌⊎◌, inl, inr, Bool, true, false, cond, List, [], ◌∷◌, length, map, filter, Contains, Some, refl, sym, ap, ◌∙◌, subst, suc, zero, arith, true≢false}
use Rattle.std.specs.Prelude.{slice_get, slice_index_or}
use Rattle.std.specs.List.{list_any}
use Rattle.std.specs.List.Sorted.{IsStrictlyIncreasing}
use Rattle.std.proofs.lemmas.Option.{slice_get_within, get_or_from_slice_get}
use Rattle.std.proofs.lemmas.List.Folds.{Any-from_list_any, list_any-from_Any}

-- the first element
pub Contains-head : {X : Type 0} (x : X) (xs : List X) → Contains (x ∷ xs) x
Contains-head x xs = (0, omega arith, refl)

-- an element of the rest
pub Contains-rest : {X : Type 0} (x y : X) (xs : List X) → Contains xs y → Contains (x ∷ xs) y
Contains-rest x y xs c = (suc c.0, let l = c.1 in omega arith, c.2)

-- an element is the first, or one of the rest
pub Contains-cons_cases : {X : Type 0} (x y : X) (xs : List X) → Contains (x ∷ xs) y → (x ≡ y) ⊎ Contains xs y
Contains-cons_cases x y xs c = go c.0 c.1 c.2 where
  go : (k : ℕ) → k < length (x ∷ xs) → slice_index_or (x ∷ xs) k y ≡ y → (x ≡ y) ⊎ Contains xs y
  go zero l e = inl e
  go (suc k) l e = inr (k, omega arith, e)

-- an empty list has none
pub Contains-nil : {X : Type 0} (y : X) → Contains [] y → ⊥
Contains-nil y c = let l = c.1 in omega arith

-- what is at a place is an element
pub Contains-slice_get : {X : Type 0} (xs : List X) (k : ℕ) (x : X) → slice_get xs k ≡ Some x → Contains xs x
Contains-slice_get xs k x e = (k, slice_get_within xs k x e, get_or_from_slice_get xs k x x e)

-- an element of a list of images is the image of an element
pub Contains-from_map : {X Y : Type 0} (f : X → Y) (xs : List X) (y : Y) → Contains (map f xs) y → (x : X) × Contains xs x × (f x ≡ y)
Contains-from_map f [] y c = absurd (Contains-nil y c)
Contains-from_map f (x ∷ xs) y c = elim (Contains-cons_cases (f x) y (map f xs) c) [
  | inl e ↦ (x, Contains-head x xs, e)
  | inr later ↦ (let m = Contains-from_map f xs y later in (m.0, Contains-rest x m.0 xs m.1, m.2))
]

-- the image of an element is in the list of images
pub Contains-map : {X Y : Type 0} (f : X → Y) (xs : List X) (x : X) → Contains xs x → Contains (map f xs) (f x)
Contains-map f [] x c = absurd (Contains-nil x c)
Contains-map f (y ∷ ys) x c = elim (Contains-cons_cases y x ys c) [
  | inl e ↦ subst (λ z. Contains (f y ∷ map f ys) (f z)) e (Contains-head (f y) (map f ys))
  | inr later ↦ Contains-rest (f y) (f x) (map f ys) (Contains-map f ys x later)
]

-- an element that passes is kept
pub Contains-filter : {X : Type 0} (p : X → Bool) (xs : List X) (x : X) → Contains xs x → p x ≡ true → Contains (filter p xs) x
Contains-filter p [] x h t = absurd (Contains-nil x h)
Contains-filter {X} p (z ∷ xs) x h t = go (λ k. Contains-filter p xs x k t) (p z) refl (Contains-cons_cases z x xs h) where
  go : (Contains xs x → Contains (filter p xs) x) → (b : Bool)
      → p z ≡ b → (z ≡ x) ⊎ Contains xs x → Contains (cond b (z ∷ filter p xs) (filter p xs)) x
  go rest true e (inl same) = subst (λ v. Contains (z ∷ filter p xs) v) same (Contains-head z (filter p xs))
  go rest true e (inr later) = Contains-rest z x (filter p xs) (rest later)
  go rest false e (inl same) = absurd (true≢false (sym t ∙ ap p (sym same) ∙ e))
  go rest false e (inr later) = rest later

-- what is kept passes, and was there
pub Contains-from_filter : {X : Type 0} (p : X → Bool) (xs : List X) (x : X) → Contains (filter p xs) x → Contains xs x × (p x ≡ true)
Contains-from_filter p [] x h = absurd (Contains-nil x h)
Contains-from_filter {X} p (z ∷ xs) x h = go (λ k. (let r = Contains-from_filter p xs x k in (Contains-rest z x xs r.0, r.1)))
    (p z) refl h where
      go : (Contains (filter p xs) x → Contains (z ∷ xs) x × (p x ≡ true))
          → (b : Bool) → p z ≡ b → Contains (cond b (z ∷ filter p xs) (filter p xs)) x → Contains (z ∷ xs) x × (p x ≡ true)
      go rest true e k = elim (Contains-cons_cases z x (filter p xs) k) [
        | inl same ↦ (subst (λ v. Contains (z ∷ xs) v) same (Contains-head z xs), ap p (sym same) ∙ e)
        | inr later ↦ rest later
      ]
      go rest false e k = rest k

-- an element that a test finds
pub list_any-found : {X : Type 0} (p : X → Bool) (xs : List X) → list_any p xs ≡ true → (x : X) × Contains xs x × (p x ≡ true)
list_any-found p xs e = let a = Any-from_list_any p xs e in (a.1, (a.0, a.2, a.3), a.4)

-- a test finds an element that passes
pub list_any-at : {X : Type 0} (p : X → Bool) (xs : List X) (x : X) → Contains xs x → p x ≡ true → list_any p xs ≡ true
list_any-at p xs x c t = list_any-from_Any p xs (c.0, x, c.1, c.2, t)

pub rising-tail : (n : ℕ) (ns : List ℕ) → IsStrictlyIncreasing (n ∷ ns) → IsStrictlyIncreasing ns
rising-tail n ns rising = λ k inside. let e : suc k + 1 ≡ suc (k + 1) = omega arith in rw e at (rising (suc k) (omega arith))

-- the first number is below those after it
pub rising-first : (n : ℕ) (ns : List ℕ) → IsStrictlyIncreasing (n ∷ ns) → (m : ℕ) → Contains ns m → n < m
rising-first n [] rising m c = absurd (Contains-nil m c)
rising-first n (k ∷ ks) rising m c =
    let next : n < k = rising 0 (omega arith) in
    elim (Contains-cons_cases k m ks c) [
      | inl e ↦ omega (arith, e, next)
      | inr later ↦ (let more = rising-first k ks (rising-tail n (k ∷ ks) rising) m later in omega (arith, more, next))
    ]
