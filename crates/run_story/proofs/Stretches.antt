-- Lists of stretches grow place by place.
use Rattle.std.proofs.Common.{ℕ, ◌≡◌, ◌+◌, ◌<◌, ◌≤◌, inl, inr, List, [], ◌∷◌, ◌++◌, get_or, subst, arith}
use Rattle.std.proofs.lemmas.Bool.{cases_lt}
use Rattle.std.proofs.lemmas.List.Elements.{Contains-push, Contains-push_cases, Contains-append_left, Contains-get_or}
use Rattle.std.proofs.lemmas.List.Quantifiers.{all_pairs_push}
use Rattle.run_story.specs.Stretches.{AreStretches}

module _ (X : Type 0) (first last : X → ℕ) (IsOne : X → Type 0) (HasSome : ℕ → Type 0) where
  -- a place with nothing adds none
  pub stretches-skip : (n : ℕ) (xs : List X) → ¬ HasSome n
      → AreStretches X first last IsOne HasSome n xs → AreStretches X first last IsOne HasSome (n + 1) xs
  stretches-skip n xs nothing are = record {
    right = are.right;
    inside = λ x c. (let before = are.inside x c in omega (arith, before));
    complete = λ k l some. elim (cases_lt k n) [
      | inl before ↦ are.complete k before some
      | inr after ↦ absurd (nothing (subst HasSome (omega arith) some))
    ];
    ordered = are.ordered;
  }

  -- one stretch more
  pub stretches-push : (n : ℕ) (xs : List X) (x : X) → IsOne x → first x ≡ n → first x ≤ last x
      → AreStretches X first last IsOne HasSome n xs → AreStretches X first last IsOne HasSome (last x + 1) (xs ++ x ∷ [])
  stretches-push n xs x one begins order are = record {
    right = λ y c. elim (Contains-push_cases xs x y c) [
      | inl old ↦ are.right y old
      | inr same ↦ subst IsOne same one
    ];
    inside = λ y c. elim (Contains-push_cases xs x y c) [
      | inl old ↦ (let before = are.inside y old in omega (arith, before))
      | inr same ↦ subst (λ (z : X). last z < last x + 1) same (omega arith)
    ];
    complete = λ k l some. elim (cases_lt k n) [
      | inl before ↦ (let old = are.complete k before some in (old.0, Contains-append_left xs (x ∷ []) old.0 old.1, old.2, old.3))
      | inr after ↦ (x, Contains-push xs x, omega arith, omega arith)
    ];
    ordered = all_pairs_push (λ a b. last a < first b) xs x are.ordered
        (λ k d l. let before = are.inside (get_or xs k d) (Contains-get_or xs k d l) in omega (arith, before));
  }
