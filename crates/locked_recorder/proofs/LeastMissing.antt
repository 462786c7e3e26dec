-- The least missing step, one more of those done after another.
use Rattle.std.proofs.Common.{ℕ, ◌≡◌, ◌<◌, ◌⊎◌, inl, inr, List, [], ◌∷◌, ◌++◌, Option, Some, None, refl, ap, subst, zero, suc, arith}
use Rattle.std.specs.Prelude.{Contains, IfSome}
use Rattle.std.proofs.lemmas.List.Elements.{All-push, All-contains, Contains-append_left, Contains-append_right, Contains-append_cases}
use Rattle.step_trace.specs.declared.steps.Step.{Step}
use Rattle.step_buffers.specs.declared.moves.Done.{Done}
use Rattle.locked_recorder.specs.Prefixes.{Stands, IsLeastMissing, Misses}

-- the one element of a list
Contains-only : {X : Type 0} (x y : X) → Contains (x ∷ []) y → x ≡ y
Contains-only x y (zero, l, e) = e
Contains-only x y (suc k, l, e) = absurd (omega arith)

-- an element of a list that grew is an old one, or the new one
Contains-push : {X : Type 0} (xs : List X) (x y : X) → Contains (xs ++ x ∷ []) y → Contains xs y ⊎ (x ≡ y)
Contains-push xs x y h = elim (Contains-append_cases xs (x ∷ []) y h) [ inl old ↦ inl old | inr new ↦ inr (Contains-only x y new) ]

-- the least missing one stays so if one more is no lesser, or is there
least_stays : (steps : List Step) (done : List Done) (d : Done) (n : ℕ) → IsLeastMissing steps done n → (d.no < n → Stands steps d)
    → IsLeastMissing steps (done ++ d ∷ []) n
least_stays steps done d n least new = record {
  missing = let m = least.missing in (m.0, Contains-append_left done (d ∷ []) m.0 m.1, m.2, m.3);
  least = λ x has below. elim (Contains-push done d x has) [
    | inl old ↦ least.least x old below
    | inr e ↦ subst (λ (y : Done). y.no < n → Stands steps y) e new below
  ];
}

-- one more that is there
pub Misses-standing : (steps : List Step) (done : List Done) (d : Done) (least : Option ℕ) → Misses steps done least → Stands steps d
    → Misses steps (done ++ d ∷ []) least
Misses-standing steps done d None all stands = All-push (λ x. Stands steps x) done d all stands
Misses-standing steps done d (Some n) least stands = least_stays steps done d n least (λ _. stands)

-- one more that isn't below the least
pub Misses-above : (steps : List Step) (done : List Done) (d : Done) (least : Option ℕ)
    → Misses steps done least → (IfSome least (λ n. d.no < n) → ⊥) → Misses steps (done ++ d ∷ []) least
Misses-above steps done d None all above = absurd (above tt)
Misses-above steps done d (Some n) least above = least_stays steps done d n least (λ below. absurd (above below))

-- one more that is missing and below the least
pub Misses-less : (steps : List Step) (done : List Done) (d : Done) (least : Option ℕ)
    → Misses steps done least → IfSome least (λ n. d.no < n) → (Stands steps d → ⊥) → Misses steps (done ++ d ∷ []) (Some d.no)
Misses-less steps done d least old below missing = record {
  missing = (d, Contains-append_right done (d ∷ []) d (0, omega arith, refl), refl, missing);
  least = λ x has l. elim (Contains-push done d x has) [
    | inl was ↦ earlier least old below x was l
    | inr e ↦ absurd (let same : d.no ≡ x.no = ap (λ (y : Done). y.no) e in omega arith)
  ];
}
  where
    earlier : (least : Option ℕ) → Misses steps done least
        → IfSome least (λ n. d.no < n) → (x : Done) → Contains done x → x.no < d.no → Stands steps x
    earlier None all below x was l = All-contains (λ y. Stands steps y) done x all was
    earlier (Some n) old below x was l = old.least x was (omega arith)
