-- Logarithms, power by power.
use Rattle.std.proofs.Common.{ℕ, ◌≡◌, ◌+◌, ◌-◌, ◌*◌, ◌/◌, ◌^◌, ◌<◌, ◌≤◌, true, false, refl, ap, ◌∙◌, subst, suc, zero, arith}
use Rattle.std.specs.Prelude.{nat_le}
use Rattle.std.proofs.lemmas.Bool.Decides.{nat_tests}
use Rattle.std.proofs.lemmas.Grind.{pow_more}
use Rattle.std.proofs.lemmas.Nat.{div_below, pow_pos}
use Rattle.run_words.specs.BoundScales.{log_below}

-- half of a power of two
pub half_power : (e p : ℕ) → 0 < e → p ≡ 2 ^ e → p / 2 ≡ 2 ^ (e - 1)
half_power e p some is =
    let next : e ≡ (e - 1) + 1 = omega arith in
    let more : 2 ^ ((e - 1) + 1) ≡ 2 ^ (e - 1) * 2 = pow_more 2 (e - 1) in
    let both : p ≡ 2 ^ (e - 1) * 2 = is ∙ ap (λ k. 2 ^ k) next ∙ more in
    omega arith

-- a number below the next power down
pub log_below-next : (e n : ℕ) → 0 < e → n < 2 ^ (e - 1) → log_below e n ≡ log_below (e - 1) n
log_below-next zero n some below = absurd (omega arith)
log_below-next (suc k) n some below =
    let same : suc k - 1 ≡ k = omega arith in
    let under : n < 2 ^ k = subst (λ (j : ℕ). n < 2 ^ j) same below in
    let no : nat_le (2 ^ k) n ≡ false = grind (arith, nat_tests) in
    rw same (rw no refl)

-- and one that isn't
pub log_below-here : (e n : ℕ) → 0 < e → 2 ^ (e - 1) ≤ n → log_below e n ≡ (e - 1) * 1000 + (n - 2 ^ (e - 1)) * 1000 / 2 ^ (e - 1)
log_below-here zero n some here = absurd (omega arith)
log_below-here (suc k) n some here =
    let same : suc k - 1 ≡ k = omega arith in
    let low : 2 ^ k ≤ n = subst (λ (j : ℕ). 2 ^ j ≤ n) same here in
    let yes : nat_le (2 ^ k) n ≡ true = grind (arith, nat_tests) in
    rw same (rw yes refl)

-- a part of a thousand
pub share-limit : (x p : ℕ) → 0 < p → x ≤ p → x * 1000 / p ≤ 1000
share-limit x p some part = let less : x * 1000 / p < 1001 = div_below (x * 1000) p 1001 some (omega (arith, some, part)) in omega arith

-- the logarithm below a power of two
pub log-limit : (e n p : ℕ) → 0 < e → e ≤ 21 → p ≡ 2 ^ (e - 1) → n < 2 ^ e → (e - 1) * 1000 + (n - p) * 1000 / p ≤ 21000
log-limit e n p some high is below =
    let next : e ≡ (e - 1) + 1 = omega arith in
    let twice : 2 ^ e ≡ 2 ^ (e - 1) * 2 = ap (λ k. 2 ^ k) next ∙ pow_more 2 (e - 1) in
    let share : (n - p) * 1000 / p ≤ 1000 = share-limit
    (n - p) p (omega (arith, below, twice, is, pow_pos (e - 1))) (omega (arith, below, twice, is)) in
    omega (arith, share, high, some)
