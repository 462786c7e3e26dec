-- Messages are counted one after the other.
use Rattle.std.proofs.Common.{ℕ, ◌≡◌, ◌+◌, ◌≤◌, ◌∙◌, Bool, true, false, cond, Option, Some, refl, suc, arith}
use Rattle.run_story.specs.MessageCounts.{count_of, last_of}

pub count-next : (test : ℕ → Bool) (n count new : ℕ) (b : Bool)
    → b ≡ test (n + 1) → count ≡ count_of test n → new ≡ cond b (count + 1) count → new ≡ count_of test (n + 1)
count-next test n count new b is known next = rw (is, known) at next ∙ step where
  step : cond (test (n + 1)) (count_of test n + 1) (count_of test n) ≡ count_of test (n + 1)
  step = let one : n + 1 ≡ suc n = omega arith in rw one refl

pub few-next : (n count new : ℕ) (b : Bool) → count ≤ n → new ≡ cond b (count + 1) count → new ≤ n + 1
few-next n count new true few next = omega (arith, few, next)
few-next n count new false few next = omega (arith, few, next)

pub last-next : (test : ℕ → Bool) (n : ℕ) (last new : Option ℕ) (b : Bool)
    → b ≡ test (n + 1) → last ≡ last_of test n → new ≡ cond b (Some (n + 1)) last → new ≡ last_of test (n + 1)
last-next test n last new b is known next = rw (is, known) at next ∙ step where
  step : cond (test (n + 1)) (Some (n + 1)) (last_of test n) ≡ last_of test (n + 1)
  step = let one : n + 1 ≡ suc n = omega arith in rw one refl
