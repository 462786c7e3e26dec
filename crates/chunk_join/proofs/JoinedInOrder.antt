-- Joining parts in their order gives the part that they make up together.
use Rattle.std.proofs.Common.{ℕ, ◌≡◌, List, [], ◌∷◌, Option, None, subst, sym, ◌∙◌, refl, inl, inr}
use Rattle.chunk_join.specs.declared.joins.Why.{Why}
use Rattle.chunk_join.specs.declared.joins.Why.TheVariants.{NotAdjacent, OtherSet, Memory}
use Rattle.chunk_join.specs.Joins.{JoinedLaws, AreParts, join_after, FitAfter, RefusesAfter, IsRefusal}

-- values that fit are refused only if out of memory
memory_only : (why : Why) (first : Option Why) → first ≡ None → IsRefusal why first → why ≡ Memory
memory_only Memory first e h = refl
memory_only NotAdjacent first e h = absurd (let d = sym e ∙ h in cc)
memory_only OtherSet first e h = absurd (let d = sym e ∙ h in cc)

module _ {M W : Type 0} (IsPart : W → ℕ → ℕ → M → Type 0)
    (empty : M) (refusal : M → M → Option Why) (joined : M → M → M) (laws : JoinedLaws IsPart empty refusal joined) where
  abbrev Parts : W → ℕ → List M → ℕ → Type 0
  Parts = AreParts IsPart empty

  abbrev Refuses : Why → M → List M → Type 0
  Refuses = RefusesAfter refusal joined

  IsPart-after : (whole : W) (h i k : ℕ) (all : M) (xs : List M)
      → IsPart whole h i all → Parts whole i xs k → IsPart whole h k (join_after joined all xs)
  IsPart-after whole h i k all [] p a = subst (λ x. IsPart whole h k x) (laws.right_unit all) (laws.part whole h i k all empty p a)
  IsPart-after whole h i k all (x ∷ xs) p a = IsPart-after whole h a.0 k (joined all x) xs (laws.part whole h i a.0 all x p a.1) a.2

  -- joined from the empty value on, parts are the part that they make up together
  pub IsPart-all : (whole : W) (i k : ℕ) (xs : List M) → Parts whole i xs k → IsPart whole i k (join_after joined empty xs)
  IsPart-all whole i k [] a = a
  IsPart-all whole i k (x ∷ xs) a = subst (λ y. IsPart whole i k (join_after joined y xs))
      (sym (laws.left_unit x)) (IsPart-after whole i a.0 k x xs a.1 a.2)

  Memory-after : (why : Why) (whole : W) (h i k : ℕ) (all : M) (xs : List M)
      → IsPart whole h i all → Parts whole i xs k → Refuses why all xs → why ≡ Memory
  Memory-after why whole h i k all [] p a r = absurd r
  Memory-after why whole h i k all (x ∷ xs) p a (inl here) = memory_only why (refusal all x) (laws.fit whole h i a.0 all x p a.1) here
  Memory-after why whole h i k all (x ∷ xs) p a (inr later) =
      Memory-after why whole h a.0 k (joined all x) xs (laws.part whole h i a.0 all x p a.1) a.2 later.1

  -- parts of one whole are refused only if out of memory
  pub Memory-all : (why : Why) (whole : W) (i k : ℕ) (xs : List M) → Parts whole i xs k → Refuses why empty xs → why ≡ Memory
  Memory-all why whole i k [] a r = absurd r
  Memory-all why whole i k (x ∷ xs) a (inl here) = memory_only why (refusal empty x) (laws.left_fits x) here
  Memory-all why whole i k (x ∷ xs) a (inr later) =
      Memory-after why whole i a.0 k x xs a.1 a.2 (subst (λ y. Refuses why y xs) (laws.left_unit x) later.1)

-- joining what is left to what was joined so far is joining all of them
pub record StandsFor {M : Type 0} (refusal : M → M → Option Why)
    (joined : M → M → M) (start : M) (xs : List M) (all : M) (rest : List M) : Type 0 where
  pub value : join_after joined all rest ≡ join_after joined start xs
  pub fits : FitAfter refusal joined all rest → FitAfter refusal joined start xs
  pub refuses : (why : Why) → RefusesAfter refusal joined why all rest → RefusesAfter refusal joined why start xs
