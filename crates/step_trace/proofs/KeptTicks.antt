-- Kept ticks: first the numbers of the steps, then the other ticks.
use Rattle.std.proofs.Common.{ℕ, ◌≡◌, ◌+◌, ◌-◌, ◌<◌, ◌≤◌, List, [], ◌∷◌, ◌++◌, length, Some, refl, sym, ap, ◌∙◌, suc, zero, arith, length-append, Bool, true, false, nat_lt}
use Rattle.std.specs.Prelude.{slice_get, unwrap_or}
use Rattle.std.proofs.lemmas.Option.{get_or_from_slice_get, unwrap_or-slice_get}
use Rattle.std.proofs.lemmas.Bool.Decides.{nat_tests}
use Rattle.std.proofs.lemmas.List.{append-nil}
use Rattle.step_trace.specs.Ticks.{tick_at}
use Rattle.step_trace.specs.TickLists.{numbers_to}
use Rattle.step_trace.proofs.PagePlaces.{slice_get-left, slice_get-right}

pub length-numbers : (n : ℕ) → length (numbers_to n) ≡ n
unfolding numbers_to
length-numbers zero = refl
length-numbers (suc n) =
    let before = length-numbers n in
    let cut = length-append (numbers_to n) (suc n ∷ []) in
    let one : length (suc n ∷ []) ≡ 1 = refl in
    omega (arith, before, cut, one)

number_at : (n k : ℕ) → k < n → slice_get (numbers_to n) k ≡ Some (suc k)
unfolding numbers_to
number_at zero k l = absurd (omega (arith, l))
number_at (suc n) k l = go (number_at n) (nat_lt k n) refl
  where
    go : ((k : ℕ) → k < n → slice_get (numbers_to n) k ≡ Some (suc k))
        → (t : Bool) → nat_lt k n ≡ t → slice_get (numbers_to (suc n)) k ≡ Some (suc k)
    go before true e =
        let below : k < n = grind (arith, nat_tests) in
        slice_get-left (numbers_to n) (suc n ∷ []) k (rw (length-numbers n) below) ∙ before k below
    go before false e =
        let last : k ≡ n = grind (arith, nat_tests) in
        let at : n ≡ n + 0 = omega arith in
        rw last (ap (slice_get (numbers_to (suc n))) at ∙ slice_get-right (numbers_to n) (suc n ∷ []) n 0 (sym (length-numbers n)))

-- the tick of a step that is in the tick of its number
pub tick_by_number : (n : ℕ) (others : List ℕ) (no : ℕ) → no ≤ n → tick_at (numbers_to n ++ others) no ≡ no
tick_by_number n others zero l = refl
tick_by_number n others (suc k) l =
    let below : k < n = omega (arith, l) in
    get_or_from_slice_get (numbers_to n ++ others) k
    (suc k) 0 (slice_get-left (numbers_to n) others k (rw (length-numbers n) below) ∙ number_at n k below)

-- and of one after those
pub tick_after : (n : ℕ) (others : List ℕ) (no : ℕ)
    → n < no → tick_at (numbers_to n ++ others) no ≡ unwrap_or (slice_get others (no - n - 1)) 0
tick_after n others zero l = absurd (omega (arith, l))
tick_after n others (suc k) l =
    let at : k ≡ n + (suc k - n - 1) = omega (arith, l) in
    sym (unwrap_or-slice_get (numbers_to n ++ others) k 0)
    ∙ ap (λ i. unwrap_or (slice_get (numbers_to n ++ others) i) 0) at
    ∙ ap (λ o. unwrap_or o 0) (slice_get-right (numbers_to n) others n (suc k - n - 1) (sym (length-numbers n)))

-- one number more
pub numbers-pushed : (n tick : ℕ) → tick ≡ n + 1 → numbers_to tick ++ [] ≡ (numbers_to n ++ []) ++ tick ∷ []
unfolding numbers_to
numbers-pushed n tick e = let next : tick ≡ suc n = omega (arith, e) in
    rw (next, append-nil (numbers_to (suc n)), append-nil (numbers_to n)) refl
