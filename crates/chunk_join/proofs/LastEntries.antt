-- The last Receives of members, place by place, and those of two parts.
use Rattle.std.proofs.Common.{ℕ, ◌≡◌, ◌≢◌, ◌+◌, ◌<◌, ◌⊎◌, inl, inr, List, [], ◌∷◌, length, replicate, get_or, set, take, Option, None, zero, suc, refl, sym, ap, arith, add-one}
use Rattle.chunk_join.specs.declared.summaries.Place.{Place}
use Rattle.chunk_join.specs.Summaries.{last_of}
use Rattle.chunk_join.specs.Parts.{later_of, later_each}

pub later_each-nil : (xs : List (Option Place)) → later_each xs [] ≡ xs
later_each-nil [] = refl
later_each-nil (x ∷ xs) = refl

more : (xs ys : List (Option Place)) (p : ℕ) (d : Option Place) → p < length xs → length xs ≡ length ys → set
    (later_each xs (take p ys)) p (later_of (get_or (later_each xs (take p ys)) p d) (get_or ys p d)) ≡ later_each xs (take (suc p) ys)
more [] ys p d l e = absurd (let n : p < 0 = l in omega (arith, n))
more (x ∷ xs) [] p d l e = absurd (let n : suc (length xs) ≡ 0 = e in omega (arith, n))
more (x ∷ xs) (y ∷ ys) zero d l e = ap (λ zs. later_of x y ∷ zs) (sym (later_each-nil xs))
more (x ∷ xs) (y ∷ ys) (suc p) d l e = ap (λ zs. later_of x y ∷ zs) (more xs ys p d
    (let n : suc p < suc (length xs) = l in omega (arith, n)) (let n : suc (length xs) ≡ suc (length ys) = e in omega (arith, n)))

pub later_each-more : (xs ys : List (Option Place)) (p : ℕ) (zs : List (Option Place)) (v d : Option Place)
    → p < length xs → length xs ≡ length ys → zs ≡ later_each xs (take p ys)
    → v ≡ later_of (get_or zs p d) (get_or ys p d) → set zs p v ≡ later_each xs (take (p + 1) ys)
later_each-more xs ys p zs v d l e f g = rw (add-one, g, f) (more xs ys p d l e)

-- if no place has a Receive, and if one is set
pub last_of-replicate : (n p : ℕ) → last_of (replicate n None) p ≡ None
last_of-replicate zero p = refl
last_of-replicate (suc n) zero = refl
last_of-replicate (suc n) (suc p) = last_of-replicate n p

pub last_of-set : (xs : List (Option Place)) (k p : ℕ) (o : Option Place)
    → k < length xs → ((p ≡ k) × (last_of (set xs k o) p ≡ o)) ⊎ ((p ≢ k) × (last_of (set xs k o) p ≡ last_of xs p))
last_of-set [] k p o l = absurd (let n : k < 0 = l in omega (arith, n))
last_of-set (x ∷ xs) zero zero o l = inl (refl, refl)
last_of-set (x ∷ xs) zero (suc p) o l = inr ((λ e. (let n : suc p ≡ 0 = e in omega (arith, n))), refl)
last_of-set (x ∷ xs) (suc k) zero o l = inr ((λ e. (let n : 0 ≡ suc k = e in omega (arith, n))), refl)
last_of-set (x ∷ xs) (suc k) (suc p) o l = elim (last_of-set xs k p o (let n : suc k < suc (length xs) = l in omega (arith, n))) [
  | inl same ↦ inl (ap suc same.0, same.1)
  | inr other ↦ inr ((λ e. other.0 (let n : suc p ≡ suc k = e in omega (arith, n))), other.1)
]
