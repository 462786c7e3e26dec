-- Lists in order that grow at their end.
use Rattle.std.proofs.Common.{◌≡◌, ◌⊎◌, inl, inr, List, [], ◌∷◌, ◌++◌, Contains, subst}
use Rattle.std.proofs.lemmas.List.Elements.{Contains-append_left, Contains-push, Contains-push_cases}
use Rattle.step_trace.proofs.ListMembers.{Contains-nil, Contains-cons_cases}
use Rattle.chunk_join.specs.Summaries.{IsListing}
use Rattle.chunk_join.specs.Laws.Listings.{Rises-append}

-- if nothing is meant, the empty list has it all
pub IsListing-none : {X : Type 0} (Before : X → X → Type 0) (Is : X → Type 0) → ((x : X) → Is x → ⊥) → IsListing Before Is []
IsListing-none Before Is none = record { rising = tt; sound = λ x k. absurd (Contains-nil x k); complete = λ x i. absurd (none x i) }

-- if the same is meant, a list stays
pub IsListing-same : {X : Type 0} (Before : X → X → Type 0) (Is Now : X → Type 0) (xs : List X)
    → ((x : X) → Is x → Now x) → ((x : X) → Now x → Is x) → IsListing Before Is xs → IsListing Before Now xs
IsListing-same Before Is Now xs forth back l =
    record { rising = l.rising; sound = λ x k. forth x (l.sound x k); complete = λ x i. l.complete x (back x i) }

-- one element more, which comes after all others
pub IsListing-push : {X : Type 0} (Before : X → X → Type 0) (Is Now : X → Type 0) (xs : List X) (x : X)
    → IsListing Before Is xs → ((y : X) → Is y → Before y x) → ((y : X) → Is y → Now y) → Now x
    → ((y : X) → Now y → Is y ⊎ (x ≡ y)) → IsListing Before Now (xs ++ x ∷ [])
IsListing-push Before Is Now xs x l above forth here cases = record {
  rising = Rises-append Before xs (x ∷ []) l.rising
      ((λ y k. absurd (Contains-nil y k)), tt) (λ y z p q. elim (Contains-cons_cases x z [] q) [
        | inl e ↦ subst (λ v. Before y v) e (above y (l.sound y p))
        | inr n ↦ absurd (Contains-nil z n)
      ]);
  sound = λ y k. elim (Contains-push_cases xs x y k) [
    | inl p ↦ forth y (l.sound y p)
    | inr e ↦ subst (λ v. Now v) e here
  ];
  complete = λ y i. elim (cases y i) [
    | inl p ↦ Contains-append_left xs (x ∷ []) y (l.complete y p)
    | inr e ↦ subst (λ v. Contains (xs ++ x ∷ []) v) e (Contains-push xs x)
  ];
}
