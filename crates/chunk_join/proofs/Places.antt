-- Lists by place: in a strict order, and changed in one place.
use Rattle.std.proofs.Common.{ℕ, ◌≡◌, ◌<◌, ◌≤◌, List, [], ◌∷◌, length, get_or, set, take, map, Contains, zero, suc, refl, sym, ap₂, subst, ◌∙◌, arith}
use Rattle.std.specs.List.{AllWithin}
use Rattle.std.proofs.lemmas.List.{get_or-take, length-take-le}
use Rattle.std.proofs.lemmas.List.Elements.{Contains-get_or}
use Rattle.chunk_join.specs.Summaries.{Rises}

-- of two places the earlier one has what comes before
pub Rises-at : {X : Type 0} (Before : X → X → Type 0) (xs : List X) (i j : ℕ) (d : X)
    → Rises Before xs → i < j → j < length xs → Before (get_or xs i d) (get_or xs j d)
Rises-at Before [] i j d r l h = absurd (let n : j < 0 = h in omega (arith, n))
Rises-at Before (x ∷ xs) i zero d r l h = absurd (omega (arith, l))
Rises-at Before (x ∷ xs) zero (suc j) d r l h = r.0
    (get_or xs j d) (Contains-get_or xs j d (let n : suc j < suc (length xs) = h in omega (arith, n)))
Rises-at Before (x ∷ xs) (suc i) (suc j) d r l h =
    Rises-at Before xs i j d r.1 (omega (arith, l)) (let n : suc j < suc (length xs) = h in omega (arith, n))

-- a function that changes nothing
pub map_kept : {X : Type 0} (f : X → X) (xs : List X)
    → ((i : ℕ) (d : X) → i < length xs → f (get_or xs i d) ≡ get_or xs i d) → xs ≡ map f xs
map_kept f [] h = refl
map_kept f (x ∷ xs) h = ap₂ (λ y ys. y ∷ ys) (sym (h 0 x (omega arith))) (map_kept f xs (λ i d l. h (suc i) d (omega (arith, l))))

-- a function that changes one place at most
pub map_at : {X : Type 0} (f : X → X) (xs : List X) (k : ℕ) (v : X) → k < length xs → ((d : X) → v ≡ f (get_or xs k d))
    → ((i : ℕ) (d : X) → i < length xs → (i ≡ k → ⊥) → f (get_or xs i d) ≡ get_or xs i d) → set xs k v ≡ map f xs
map_at f [] k v l e h = absurd (let n : k < 0 = l in omega (arith, n))
map_at f (x ∷ xs) zero v l e h = ap₂ (λ y ys. y ∷ ys)
    (e x) (map_kept f xs (λ i d n. h (suc i) d (omega (arith, n)) (λ z. omega (arith, z))))
map_at f (x ∷ xs) (suc k) v l e h = ap₂ (λ y ys. y ∷ ys) (sym (h 0 x (omega arith) (λ z. omega (arith, z)))) (map_at f xs k v
    (let n : suc k < suc (length xs) = l in omega (arith, n)) e (λ i d n ne. h (suc i) d (omega (arith, n)) (λ z. ne (omega (arith, z)))))

-- what holds up to a place holds of each element that is taken
pub each_taken : {X : Type 0} (P : X → Type 0) (xs : List X) (n : ℕ)
    → n ≤ length xs → AllWithin P xs 0 n → (x : X) → Contains (take n xs) x → P x
each_taken P xs n l h x k =
    let within : k.0 < n = omega (arith, k.1, length-take-le n xs l) in
    subst P (sym (get_or-take n xs k.0 x within) ∙ k.2) (h k.0 x (omega arith) within)
