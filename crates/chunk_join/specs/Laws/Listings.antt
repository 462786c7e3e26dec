-- Lists in a strict order, and what a search or a test finds in a list.
use Rattle.std.proofs.Common.{◌≡◌, List, [], ◌∷◌, ◌++◌, ◌||◌, Bool, true, false, cond, Some, None, map, filter}
use Rattle.std.proofs.Common.{find, Contains, refl, sym, ap, ap₂, subst, ◌∙◌, inl, inr, true≢false}
use Rattle.std.specs.List.{list_any}
use Rattle.std.proofs.lemmas.Option.{same_Some, none-some}
use Rattle.std.proofs.lemmas.Bool.{false_from_ne_true}
use Rattle.std.proofs.lemmas.List.Elements.{Contains-append_cases}
use Rattle.step_trace.proofs.Refusals.{find_all}
use Rattle.step_trace.proofs.ListMembers.{list_any-at, Contains-head, Contains-rest, Contains-cons_cases}
use Rattle.step_trace.proofs.ListMembers.{Contains-nil, Contains-from_map, Contains-from_filter}
use Rattle.chunk_join.specs.Summaries.{Rises, IsListing}

-- what a search finds is an element that passes
pub Contains-found : {X : Type 0} (p : X → Bool) (xs : List X) (x : X) → find p xs ≡ Some x
    → Contains xs x × (p x ≡ true)
Contains-found p [] x h = absurd (none-some x h)
Contains-found {X} p (z ∷ xs) x h = go (λ k. (let r = Contains-found p xs x k in (Contains-rest z x xs r.0, r.1)))
    (p z) refl h where
      go : (find p xs ≡ Some x → Contains (z ∷ xs) x × (p x ≡ true)) → (b : Bool) → p z ≡ b
          → cond b (Some z) (find p xs) ≡ Some x → Contains (z ∷ xs) x × (p x ≡ true)
      go rest true e k = let same = same_Some z x k in
          (subst (λ v. Contains (z ∷ xs) v) same (Contains-head z xs), ap p (sym same) ∙ e)
      go rest false e k = rest k

-- if it finds none, none passes
pub none_found : {X : Type 0} (p : X → Bool) (xs : List X) (x : X) → find p xs ≡ None → Contains xs x → p x ≡ false
none_found p xs x h = find_all p xs h x

-- if a test finds none, none passes
pub none_passes : {X : Type 0} (p : X → Bool) (xs : List X) (x : X) → list_any p xs ≡ false
    → Contains xs x → p x ≡ false
none_passes p xs x h c = false_from_ne_true (p x) (λ t. true≢false (sym (list_any-at p xs x c t) ∙ h))

-- if none passes, a test finds none
pub none_any : {X : Type 0} (p : X → Bool) (xs : List X) → ((x : X) → p x ≡ false) → list_any p xs ≡ false
none_any p [] h = refl
none_any p (x ∷ xs) h = ap₂ (λ (b c : Bool). b || c) (h x) (none_any p xs h)

-- a list in order, followed by one that comes after all of it
pub Rises-append : {X : Type 0} (Before : X → X → Type 0) (xs ys : List X) → Rises Before xs → Rises Before ys
    → ((x y : X) → Contains xs x → Contains ys y → Before x y) → Rises Before (xs ++ ys)
Rises-append Before [] ys r s h = s
Rises-append Before (x ∷ xs) ys r s h = (
  λ y k. elim (Contains-append_cases xs ys y k) [ inl a ↦ r.0 y a | inr b ↦ h x y (Contains-head x xs) b ],
  Rises-append Before xs ys r.1 s (λ v w a b. h v w (Contains-rest x v xs a) b),
)

-- a function that keeps the order of elements keeps the order of the list
pub Rises-map : {X : Type 0} (Before : X → X → Type 0) (f : X → X) → (xs : List X)
    → ((x y : X) → Contains xs x → Contains xs y → Before x y → Before (f x) (f y)) → Rises Before xs
    → Rises Before (map f xs)
Rises-map Before f [] keeps r = tt
Rises-map Before f (x ∷ xs) keeps r = (
  λ y k. (let z = Contains-from_map f xs y k in
      subst (λ v. Before (f x) v) z.2 (keeps x z.0 (Contains-head x xs) (Contains-rest x z.0 xs z.1) (r.0 z.0 z.1))),
  Rises-map Before f xs (λ v w a b. keeps v w (Contains-rest x v xs a) (Contains-rest x w xs b)) r.1,
)

pub Rises-filter : {X : Type 0} (Before : X → X → Type 0) (p : X → Bool) (xs : List X) → Rises Before xs
    → Rises Before (filter p xs)
Rises-filter Before p [] r = tt
Rises-filter {X} Before p (x ∷ xs) r = go (Rises-filter Before p xs r.1) (p x) where
  go : Rises Before (filter p xs) → (b : Bool) → Rises Before (cond b (x ∷ filter p xs) (filter p xs))
  go rest true = (λ y k. r.0 y (Contains-from_filter p xs y k).0, rest)
  go rest false = rest

-- two lists in a strict order with the same elements are one
same_list : {X : Type 0} (Before : X → X → Type 0) → ((x y : X) → Before x y → Before y x → ⊥) → (xs ys : List X)
    → Rises Before xs → Rises Before ys → ((x : X) → Contains xs x → Contains ys x)
    → ((x : X) → Contains ys x → Contains xs x) → xs ≡ ys
same_list Before strict [] [] r s a b = refl
same_list Before strict [] (y ∷ ys) r s a b = absurd (Contains-nil y (b y (Contains-head y ys)))
same_list Before strict (x ∷ xs) [] r s a b = absurd (Contains-nil x (a x (Contains-head x xs)))
same_list {X} Before strict (x ∷ xs) (y ∷ ys) r s a b =
    ap₂ (λ u us. u ∷ us) head (same_list Before strict xs ys r.1 s.1 forth back) where
      head : x ≡ y
      head = elim (Contains-cons_cases y x ys (a x (Contains-head x xs))) [
        | inl e ↦ sym e
        | inr p ↦ elim (Contains-cons_cases x y xs (b y (Contains-head y ys))) [
          | inl e ↦ e
          | inr q ↦ absurd (strict x y (r.0 y q) (s.0 x p))
        ]
      ]

      forth : (z : X) → Contains xs z → Contains ys z
      forth z k = elim (Contains-cons_cases y z ys (a z (Contains-rest x z xs k))) [
        | inl e ↦ absurd (let l = subst (λ v. Before x v) (sym e ∙ sym head) (r.0 z k) in strict x x l l)
        | inr later ↦ later
      ]

      back : (z : X) → Contains ys z → Contains xs z
      back z k = elim (Contains-cons_cases x z xs (b z (Contains-rest y z ys k))) [
        | inl e ↦ absurd (let l = subst (λ v. Before y v) (sym e ∙ head) (s.0 z k) in strict y y l l)
        | inr later ↦ later
      ]

pub IsListing-one : {X : Type 0} (Before : X → X → Type 0) (Is : X → Type 0) → ((x y : X) → Before x y → Before y x → ⊥)
    → (xs ys : List X) → IsListing Before Is xs → IsListing Before Is ys → xs ≡ ys
IsListing-one Before Is strict xs ys a b = same_list Before strict xs ys a.rising b.rising
    (λ x k. b.complete x (a.sound x k)) (λ x k. a.complete x (b.sound x k))
