-- A name of a set is at one place.
use Rattle.std.proofs.Common.{◌≡◌, ℕ, zero, suc, ◌<◌, true, false, true≢false, Some, List, [], ◌∷◌, Bool, sym, refl, ◌∙◌, arith, length, get_or, map}
use Rattle.std.specs.Prelude.{position}
use Rattle.std.specs.List.{IsDistinct, list_any, position_or_len}
use Rattle.std.specs.Str.{bytes_eq}
use Rattle.std.proofs.lemmas.Bool.{lt-ltb}
use Rattle.std.proofs.lemmas.List.Elements.{All-from_recursion}
use Rattle.std.proofs.lemmas.List.Folds.{list_any_at}
use Rattle.std.proofs.lemmas.List.Quantifiers.{position-Some}
use Rattle.trace_text.proofs.Numbers.{bytes_eq-other, bytes_eq-same}
use Rattle.event_log.proofs.Views.{position-map}

-- what is found at a place is there
pub within-found : {X : Type 0} (p : X → Bool) (xs : List X) (i : ℕ) → position p xs ≡ Some i → i < length xs
within-found p [] i found = cc found
within-found p (x ∷ xs) i found = (position-Some p (x ∷ xs) i x found).0

pub any-found : {X : Type 0} (p : X → Bool) (xs : List X) (i : ℕ) → position p xs ≡ Some i → list_any p xs ≡ true
any-found p [] i found = cc found
any-found p (x ∷ xs) i found = let at = position-Some p (x ∷ xs) i x found in list_any_at p (x ∷ xs) i x at.0 at.1

module _ {K : Type 0} (f : K → List ℕ) where
  -- no two keys have one name
  abbrev pub HaveOwnNames : List K → Type 0
  HaveOwnNames keys = IsDistinct (λ a b. bytes_eq (f a) (f b)) keys

  differs : (x k : K) → bytes_eq (f x) (f k) ≡ false → bytes_eq (f k) (f x) ≡ false
  differs x k apart = bytes_eq-other (f k) (f x) (λ same. true≢false (sym (bytes_eq-same (f x) (f k) (sym same)) ∙ apart))

  place-of_key : (keys : List K) (i : ℕ) (d : K) → HaveOwnNames keys → i < length keys
      → position_or_len (λ x. bytes_eq (f (get_or keys i d)) (f x)) keys ≡ i
  unfolding IsDistinct
  place-of_key [] i d own lt = absurd (omega (arith, lt))
  place-of_key (x ∷ xs) zero d own lt = rw (bytes_eq-same (f x) (f x) refl) refl
  place-of_key (x ∷ xs) (suc i) d own lt =
      let within : i < length xs = omega (arith, lt) in
      let other = differs x (get_or xs i d) (All-from_recursion (λ y. bytes_eq (f x) (f y) ≡ false) xs own.0 i d within) in
      let rest = place-of_key xs i d own.1 within in
      rw other (omega (arith, rest))

  -- the name of the key at a place is found there
  pub found-at : (keys : List K) (i : ℕ) (d : K) → HaveOwnNames keys → i < length keys
      → position (bytes_eq (f (get_or keys i d))) (map f keys) ≡ Some i
  found-at keys i d own lt =
      let within = lt-ltb i (length keys) lt in
      position-map f (bytes_eq (f (get_or keys i d))) keys ∙ rw (place-of_key keys i d own lt, within) refl
