-- A list of owned names and the list of their bytes.
use Rattle.std.proofs.Common.{◌≡◌, ℕ, zero, suc, ◌+◌, ◌<◌, arith, length, get_or, Some, None, Bool, true, false, cond, List, [], ◌∷◌, ◌++◌, map, not, ap, refl}
use Rattle.std.specs.Prelude.{◌||◌, ◌&&◌, nat_lt, if◌then◌else◌, position}
use Rattle.std.specs.List.{AllZip, list_all, list_any, position_or_len, prefix_len}
use Rattle.std.proofs.lemmas.List.{map-append, length-map}
use Rattle.std.proofs.lemmas.Bool.{and_right}

-- a test of the elements of a map
pub list_any-map : {X Y : Type 0} (f : X → Y) (p : Y → Bool) (xs : List X) → list_any p (map f xs) ≡ list_any (λ x. p (f x)) xs
list_any-map f p [] = refl
list_any-map f p (x ∷ xs) = ap (λ b. p (f x) || b) (list_any-map f p xs)

-- how many pass at the front of a map
prefix_len-map : {X Y : Type 0} (f : X → Y) (p : Y → Bool) (xs : List X) → prefix_len p (map f xs) ≡ prefix_len (λ x. p (f x)) xs
prefix_len-map f p [] = refl
prefix_len-map f p (x ∷ xs) = ap (λ n. cond (p (f x)) (1 + n) 0) (prefix_len-map f p xs)

-- the first place of a map that passes
pub position_or_len-map : {X Y : Type 0} (f : X → Y) (p : Y → Bool) (xs : List X)
    → position_or_len p (map f xs) ≡ position_or_len (λ x. p (f x)) xs
position_or_len-map f p xs = prefix_len-map f (λ y. not (p y)) xs

-- the same of the place, or none
pub position-map : {X Y : Type 0} (f : X → Y) (p : Y → Bool) (xs : List X) → position p (map f xs) ≡ position (λ x. p (f x)) xs
position-map f p xs = rw (position_or_len-map f p xs, length-map xs f) refl

-- one more element, or none
pub map-one : {X Y : Type 0} (f : X → Y) (x : X) (xs : List X) (t : Bool)
    → map f (if t then xs else xs ++ x ∷ []) ≡ (if t then map f xs else map f xs ++ f x ∷ [])
map-one f x xs true = refl
map-one f x xs false = map-append f xs (x ∷ [])

-- a place that there is, is the first
pub position-is : {X : Type 0} (p : X → Bool) (xs : List X) (i : ℕ) → position p xs ≡ Some i → i ≡ position_or_len p xs
position-is p xs i h = go (nat_lt (position_or_len p xs) (length xs)) h where
  go : (t : Bool) → cond t (Some (position_or_len p xs)) None ≡ Some i → i ≡ position_or_len p xs
  go true e = cc e
  go false e = cc e

-- all elements pass, and one more
more-go : (t a b : Bool) → (a ≡ true → b ≡ true) → (t && a) ≡ true → (t && b) ≡ true
more-go true a b f e = f e
more-go false a b f e = cc e

pub list_all-more : {X : Type 0} (p : X → Bool) (xs : List X) (y : X) → list_all p xs ≡ true → p y ≡ true → list_all p (xs ++ y ∷ []) ≡ true
list_all-more p [] y h k = rw k refl
list_all-more p (x ∷ xs) y h k = more-go (p x) (list_all p xs) (list_all p (xs ++ y ∷ [])) (λ e. list_all-more p xs y e k) h

pub list_all-stops : {X : Type 0} (p : X → Bool) (xs : List X) (k : ℕ) (d : X)
    → k < length xs → p (get_or xs k d) ≡ false → list_all p xs ≡ false
list_all-stops p [] k d lt e = absurd (omega (arith, lt))
list_all-stops p (x ∷ xs) zero d lt e = rw e refl
list_all-stops p (x ∷ xs) (suc k) d lt e = and_right (p x) (list_all p xs) (list_all-stops p xs k d (omega (arith, lt)) e)

-- elements that are the same to a view, one by one
pub map-same : {X Y : Type 0} (f : X → Y) (R : X → X → Type 0)
    → ((x y : X) → R x y → f y ≡ f x) → (xs ys : List X) → AllZip R xs ys → map f ys ≡ map f xs
map-same f R same [] [] h = refl
map-same f R same (x ∷ xs) (y ∷ ys) h = rw (same x y h.0, map-same f R same xs ys h.1) refl
map-same f R same [] (y ∷ ys) h = absurd h
map-same f R same (x ∷ xs) [] h = absurd h
