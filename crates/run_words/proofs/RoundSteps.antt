-- Round numbers, one after another.
use Rattle.std.proofs.Common.{ℕ, ◌≡◌, ◌+◌, ◌/◌, ◌<◌, ◌≤◌, ◌∙◌, List, [], ◌∷◌, Bool, true, false, refl, sym, ap, drop, length, zero, suc, arith}
use Rattle.std.specs.Prelude.{max, nat_le, slice_index_or, if◌then◌else◌, ◌&&◌}
use Rattle.std.proofs.lemmas.Bool.Decides.{nat_tests}
use Rattle.run_words.specs.RoundNumbers.{first_step, round_numbers, round_step}

-- the first of those from a place on: the one at that place, or the first of those after it
pub first_step-at : (steps : List ℕ) (i limit most : ℕ) → i < length steps → first_step (drop i steps) limit most
    ≡ (if nat_le (limit / slice_index_or steps i 0) most then slice_index_or steps i 0 else first_step (drop (suc i) steps) limit most)
first_step-at [] i limit most inside = absurd (omega arith)
first_step-at (s ∷ rest) zero limit most inside = refl
first_step-at (s ∷ rest) (suc i) limit most inside = first_step-at rest i limit most (omega arith)

-- whether none of them is 0
abbrev all_some : List ℕ → Bool
all_some [] = true
all_some (s ∷ rest) = nat_le 1 s && all_some rest

some-at : (steps : List ℕ) (i : ℕ) → all_some steps ≡ true → i < length steps → 1 ≤ slice_index_or steps i 0
some-at [] i some inside = absurd (omega arith)
some-at (s ∷ rest) zero some inside = first s (nat_le 1 s) refl some where
  first : (s : ℕ) (b : Bool) → nat_le 1 s ≡ b → (b && all_some rest) ≡ true → 1 ≤ s
  first s true is some = grind (arith, nat_tests)
  first s false is some = absurd (grind arith)
some-at (s ∷ rest) (suc i) some inside = some-at rest i (others (nat_le 1 s) some) (omega arith) where
  others : (b : Bool) → (b && all_some rest) ≡ true → all_some rest ≡ true
  others true some = some
  others false some = absurd (grind arith)

-- the round number at a place; a least divisor of 1 doesn't change it
abbrev pub at : ℕ → ℕ
at i = slice_index_or round_numbers i 0

pub divisor : (i r : ℕ) → i < 19 → r ≡ max (at i) 1 → r ≡ at i
divisor i r inside is = let some = some-at round_numbers i refl inside in omega (arith, some, is)

-- it is the first that goes so often into the limit, or isn't
pub first-here : (i r limit most : ℕ) → i < 19 → r ≡ at i → limit / r ≤ most → r ≡ first_step (drop i round_numbers) limit most
first-here i r limit most inside is small =
    let yes : nat_le (limit / at i) most ≡ true = grind (arith, nat_tests) in
    is ∙ sym (first_step-at round_numbers i limit most inside
    ∙ ap (λ b. if b then at i else first_step (drop (suc i) round_numbers) limit most) yes)

pub first-later : (i r limit most : ℕ) → i < 19 → r ≡ at i
    → most < limit / r → first_step (drop (i + 1) round_numbers) limit most ≡ first_step (drop i round_numbers) limit most
first-later i r limit most inside is large =
    let not : nat_le (limit / at i) most ≡ false = grind (arith, nat_tests) in
    let after : i + 1 ≡ suc i = omega arith in
    ap (λ k. first_step (drop k round_numbers) limit most) after
    ∙ sym (first_step-at round_numbers i limit most inside
    ∙ ap (λ b. if b then at i else first_step (drop (suc i) round_numbers) limit most) not)

-- the first round number, from the first place on
pub all-left : (limit most : ℕ) → first_step (drop 0 round_numbers) limit most ≡ round_step limit most
unfolding round_step
all-left limit most = refl
