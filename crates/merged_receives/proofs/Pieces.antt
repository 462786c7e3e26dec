-- Pieces of a list, by their places and where the pieces stand one behind the other.
use Rattle.std.proofs.Common.{ℕ, zero, suc, ◌≡◌, ◌∙◌, ◌+◌, ◌-◌, ◌<◌, ◌≤◌, false, cond, List, [], ◌∷◌, ◌++◌, length, map, set, take, drop, refl, sym, ap, ap₂, subst, arith}
use Rattle.std.specs.Prelude.{◌==◌, slice_index, slice_index_or}
use Rattle.std.specs.List.{filter, sum}
use Rattle.std.proofs.lemmas.Bool.{eqb-true, false_from_ne_true}
use Rattle.std.proofs.lemmas.List.{append_assoc, drop-map, drop_more, get_or_at, get_or_past, length-map, length-take-le, map_more, set_at, take-map}
use Rattle.std.proofs.lemmas.List.Sums.{sum_by-cons}
use Rattle.merged_receives.specs.HeadSizes.{ends_from}
use Rattle.merged_receives.specs.MergeWalks.{has_some}
use Rattle.merged_receives.specs.Pieces.{pieces}

pub pieces-long : (from : ℕ) (ends xs : List ℕ) → length (pieces from ends xs) ≡ length ends
pieces-long from [] xs = refl
pieces-long from (end ∷ ends) xs = ap suc (pieces-long end ends xs)

pub piece-at : (from : ℕ) (ends xs : List ℕ) (k : ℕ) → k < length ends → slice_index_or (pieces from ends xs) k []
    ≡ take (slice_index ends k - slice_index (from ∷ ends) k) (drop (slice_index (from ∷ ends) k) xs)
piece-at from [] xs k l = absurd (omega (arith, l))
piece-at from (end ∷ ends) xs zero l = refl
piece-at from (end ∷ ends) xs (suc k) l = piece-at end ends xs k (omega (arith, l))

pub no-piece : (from : ℕ) (ends xs : List ℕ) (k : ℕ) → length ends ≤ k → [] ≡ slice_index_or (pieces from ends xs) k []
no-piece from ends xs k l = let n = pieces-long from ends xs in sym (get_or_past (pieces from ends xs) k [] (omega (arith, n, l)))

pub map-pieces : (f : ℕ → ℕ) (from : ℕ) (ends xs : List ℕ) → pieces from ends (map f xs) ≡ map (map f) (pieces from ends xs)
map-pieces f from [] xs = refl
map-pieces f from (end ∷ ends) xs = ap₂ (λ (ys : List ℕ) (yss : List (List ℕ)). ys ∷ yss)
    (ap (take (end - from)) (drop-map f from xs) ∙ take-map f (end - from) (drop from xs)) (map-pieces f end ends xs)

-- Lists that stand one behind the other from a place on are the pieces that end where they end, but for empty ones.
pub pieces-laid : (from : ℕ) (xss : List (List ℕ)) (places : List ℕ) → ((h : ℕ) → h < length xss → take
    (length (slice_index_or xss h [])) (drop (from + sum (take h (map length xss))) places) ≡ slice_index_or xss h [])
    → pieces from (ends_from from (map length xss)) places ≡ filter has_some xss
pieces-laid from [] places w = refl
pieces-laid from ([] ∷ xss) places w =
    pieces-laid from xss places (λ h l.
    let next : from + sum (take (suc h) (0 ∷ map length xss))
    ≡ from + sum (take h (map length xss)) = (let e = sum_by-cons (λ x. x) 0 (take h (map length xss)) in omega (arith, e)) in
    subst (λ b. take (length (slice_index_or xss h [])) (drop b places) ≡ slice_index_or xss h []) next (w (suc h) (omega (arith, l))))
pieces-laid from ((x ∷ xs) ∷ xss) places w =
    ap (λ t. pieces from (cond t (ends_from from (map length xss)) ((from + n) ∷ ends_from (from + n) (map length xss))) places) some
    ∙ ap₂ (λ (ys : List ℕ) (yss : List (List ℕ)). ys ∷ yss) first
    (pieces-laid (from + n) xss places (λ h l.
    let next : from + sum (take (suc h) (n ∷ map length xss))
    ≡ from + n + sum (take h (map length xss)) = (let e = sum_by-cons (λ y. y) n (take h (map length xss)) in omega (arith, e)) in
    subst (λ b. take (length (slice_index_or xss h [])) (drop b places) ≡ slice_index_or xss h []) next
    (w (suc h) (omega (arith, l))))) where
      n : ℕ
      n = length (x ∷ xs)

      some : (n == 0) ≡ false
      some = false_from_ne_true (n == 0) (λ t. let e = eqb-true n 0 t in omega (arith, e))

      first : take (from + n - from) (drop from places) ≡ x ∷ xs
      first =
          let size : n ≡ from + n - from = omega arith in
          let here : from + 0 ≡ from = omega arith in
          subst (λ m. take m (drop from places) ≡ x ∷ xs) size (subst (λ b. take n (drop b places) ≡ x ∷ xs) here (w zero (omega arith)))

-- one number more for another
pub others-step : (f : ℕ → ℕ) (xs : List ℕ) (i : ℕ) (ys : List ℕ) (y : ℕ) → i < length xs → ys ≡ map f (take i xs) ++ drop i xs
    → y ≡ f (slice_index ys i) → set ys i y ≡ map f (take (i + 1) xs) ++ drop (i + 1) xs
others-step f xs i ys y l w e =
    ap₂ (λ (zs : List ℕ) z. set zs i z) split (e ∙ ap f read)
    ∙ set_at (map f (take i xs)) (slice_index xs i) (drop (i + 1) xs) (f (slice_index xs i)) i long
    ∙ sym (append_assoc (map f (take i xs)) (f (slice_index xs i) ∷ []) (drop (i + 1) xs))
    ∙ ap (λ (zs : List ℕ). zs ++ drop (i + 1) xs) (sym (map_more f xs i 0 l)) where
      long : length (map f (take i xs)) ≡ i
      long = length-map (take i xs) f ∙ length-take-le i xs (omega (arith, l))

      split : ys ≡ map f (take i xs) ++ (slice_index xs i ∷ drop (i + 1) xs)
      split = w ∙ ap (λ (zs : List ℕ). map f (take i xs) ++ zs) (drop_more xs i 0 l)

      read : slice_index ys i ≡ slice_index xs i
      read = ap (λ (zs : List ℕ). slice_index zs i) split ∙ get_or_at (map f (take i xs)) (slice_index xs i) (drop (i + 1) xs) 0 i long
