-- Numbers can be sorted, and the places of an order have numbers.
use Rattle.std.proofs.Common.{ℕ, ◌≡◌, ◌<◌, ◌≤◌, ◌⊎◌, inl, inr, cond, List, [], ◌∷◌, length, map, zero, suc, refl, ap, ◌∙◌, arith, eq-eqb, ne_eqb, insert}
use Rattle.std.specs.Prelude.{slice_index, slice_index_or, ◌==◌}
use Rattle.std.specs.List.{range_with_len}
use Rattle.std.specs.List.Sorted.{IsNonDecreasingBy, IsPermutation}
use Rattle.std.proofs.lemmas.Bool.{cases_lt}
use Rattle.std.proofs.lemmas.List.FromFn.{get_or-map-range_with_len, length-map-range_with_len}
use Rattle.std.proofs.lemmas.List.Sorted.{IsNonDecreasingBy-insert, IsPermutation-cons, IsPermutation-insert, IsPermutation-refl, IsPermutation-trans}
use Rattle.idle_laws.proofs.Common.{AreNumbers, AreApart, places-apart, places-inside}

-- x fits at place i of a list: nothing before it is greater, and nothing from it on is less
record FitsAt (key : ℕ → ℕ) (x : ℕ) (ys : List ℕ) : Type 0 where
  place : ℕ
  inside : place ≤ length ys
  before : (k d : ℕ) → k < place → key (slice_index_or ys k d) ≤ key x
  after : (k d : ℕ) → place ≤ k → k < length ys → key x ≤ key (slice_index_or ys k d)

fits-at : (key : ℕ → ℕ) (x : ℕ) (ys : List ℕ) → IsNonDecreasingBy key ys → FitsAt key x ys
fits-at key x [] up =
    record { place = 0; inside = omega arith; before = λ k d l. absurd (omega arith); after = λ k d l m. absurd (omega arith) }
fits-at key x (y ∷ ys) up = go (cases_lt (key y) (key x))
    (fits-at key x ys (λ i j d l m. up (suc i) (suc j) d (omega arith) (omega arith))) where
      go : (key y < key x) ⊎ (key x ≤ key y) → FitsAt key x ys → FitsAt key x (y ∷ ys)
      go (inl less) f = record { place = suc f.place; inside = (let i = f.inside in omega arith); before = before; after = after } where
        before : (k d : ℕ) → k < suc f.place → key (slice_index_or (y ∷ ys) k d) ≤ key x
        before zero d l = omega arith
        before (suc k) d l = f.before k d (omega arith)

        after : (k d : ℕ) → suc f.place ≤ k → k < length (y ∷ ys) → key x ≤ key (slice_index_or (y ∷ ys) k d)
        after zero d l m = absurd (omega arith)
        after (suc k) d l m = f.after k d (omega arith) (omega arith)
      go (inr more) f = record {
        place = 0;
        inside = omega arith;
        before = λ k d l. absurd (omega arith);
        after = λ k d l m. (let u = up 0 k d (omega arith) m in omega arith);
      }

-- any numbers, in rising order of a key
pub sorted : (key : ℕ → ℕ) (xs : List ℕ) → (ys : List ℕ) × IsPermutation xs ys × IsNonDecreasingBy key ys
sorted key [] = ([], IsPermutation-refl [], λ i j d l m. absurd (omega arith))
sorted key (x ∷ xs) =
    let r = sorted key xs in
    let f = fits-at key x r.0 r.2 in (
      insert r.0 f.place x,
      IsPermutation-trans (x ∷ xs) (x ∷ r.0) (insert r.0 f.place x) (IsPermutation-cons x xs r.0 r.1) (IsPermutation-insert r.0 f.place x),
      IsNonDecreasingBy-insert key r.0 f.place x r.2 f.inside f.before f.after,
    )

-- the first place of a number
abbrev place_of : ℕ → List ℕ → ℕ
place_of x [] = 0
place_of x (y ∷ ys) = cond (y == x) 0 (suc (place_of x ys))

place_of-at : (xs : List ℕ) (k : ℕ) → AreApart xs → k < length xs → place_of (slice_index xs k) xs ≡ k
place_of-at [] k h l = absurd (omega arith)
place_of-at (x ∷ xs) zero h l = ap (λ b. cond b 0 (suc (place_of x xs))) (eq-eqb x x refl)
place_of-at (x ∷ xs) (suc k) h l =
    let other : ¬ (x ≡ slice_index xs k) = (λ e. (let z = h.each 0 (suc k) (omega arith) l e in omega arith)) in
    ap (λ b. cond b 0 (suc (place_of (slice_index xs k) xs))) (ne_eqb x (slice_index xs k) other)
    ∙ ap suc (place_of-at xs k
    (record { each = λ a b la lb e. (let z = h.each (suc a) (suc b) (omega arith) (omega arith) e in omega arith) }) (omega arith))

-- an order has numbers
pub numbered : (n : ℕ) (order : List ℕ) → IsPermutation (range_with_len 0 n) order → (numbers : List ℕ) × AreNumbers order numbers
numbered n order h = (
  map (λ p. suc (place_of p order)) (range_with_len 0 n),
  record {
    long = (let a = length-map-range_with_len (λ p. suc (place_of p order)) 0 n in let b = (places-inside n order h).0 in omega arith);
    each = λ k l. (
        let inside = (places-inside n order h).1 k l in
        let at = get_or-map-range_with_len (λ p. suc (place_of p order)) 0 n
        (slice_index order k) (slice_index order k) 0 inside (omega arith) in
        omega (arith, place_of-at order k (places-apart n order h) l));
  },
)
