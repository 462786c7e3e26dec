-- Powers of ten, one after another.
use Rattle.std.proofs.Common.{ℕ, ◌≡◌, ◌+◌, ◌<◌, ◌≤◌, ◌∙◌, List, [], ◌∷◌, true, false, refl, sym, ap, drop, length, zero, suc, arith}
use Rattle.std.specs.Prelude.{nat_le, slice_index_or, if◌then◌else◌}
use Rattle.std.proofs.lemmas.Bool.Decides.{nat_tests}
use Rattle.run_words.specs.Clocks.{first_within, power_within, powers_of_ten}

-- the first of those from a place on: the one at that place, or the first of those after it
first_within-at : (powers : List ℕ) (i n : ℕ) → i < length powers → first_within (drop i powers) n
    ≡ (if nat_le (slice_index_or powers i 0) n then slice_index_or powers i 0 else first_within (drop (suc i) powers) n)
first_within-at [] i n inside = absurd (omega arith)
first_within-at (p ∷ rest) zero n inside = refl
first_within-at (p ∷ rest) (suc i) n inside = first_within-at rest i n (omega arith)

-- the power at a place
abbrev pub at : ℕ → ℕ
at i = slice_index_or powers_of_ten i 0

-- it is the first that isn't above the number, or is above it
pub first-here : (i p n : ℕ) → i < 19 → p ≡ at i → p ≤ n → p ≡ first_within (drop i powers_of_ten) n
first-here i p n inside is small =
    let yes : nat_le (at i) n ≡ true = grind (arith, nat_tests) in
    is ∙ sym (first_within-at powers_of_ten i n inside ∙ ap (λ b. if b then at i else first_within (drop (suc i) powers_of_ten) n) yes)

pub first-later : (i p n : ℕ) → i < 19 → p ≡ at i → n < p
    → first_within (drop (i + 1) powers_of_ten) n ≡ first_within (drop i powers_of_ten) n
first-later i p n inside is large =
    let not : nat_le (at i) n ≡ false = grind (arith, nat_tests) in
    let after : i + 1 ≡ suc i = omega arith in
    ap (λ k. first_within (drop k powers_of_ten) n) after
    ∙ sym (first_within-at powers_of_ten i n inside ∙ ap (λ b. if b then at i else first_within (drop (suc i) powers_of_ten) n) not)

-- all of them, from the first place on
pub all-left : (n : ℕ) → first_within (drop 0 powers_of_ten) n ≡ power_within n
unfolding power_within
all-left n = refl
