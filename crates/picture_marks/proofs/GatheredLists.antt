-- Gathered lists: they grow at their end, and have what their numbers give.
use Rattle.std.proofs.Common.{ℕ, ◌≡◌, ◌+◌, ◌≤◌, inl, inr, List, [], ◌++◌, Option, Some, None, refl, zero, suc, arith, ap}
use Rattle.std.specs.Prelude.{Contains}
use Rattle.std.proofs.lemmas.Bool.{cases_lt}
use Rattle.std.proofs.lemmas.List.Elements.{Contains-append_left, Contains-append_right, Contains-append_cases}
use Rattle.step_trace.proofs.ListMembers.{Contains-head, Contains-nil, Contains-cons_cases}
use Rattle.picture_marks.specs.Gathered.{gathered, one_or_none}

-- one number more
pub gathered_more : {X : Type 0} (f : ℕ → Option X) (n : ℕ) (list more : List X) (item : Option X) → list ≡ gathered f n
    → more ≡ list ++ one_or_none item → item ≡ f (n + 1) → more ≡ gathered f (n + 1)
gathered_more f n list more item before pushed is =
    let next : n + 1 ≡ suc n = omega arith in
    rw (pushed, before, is, next) refl

one_has : {X : Type 0} (o : Option X) (x : X) → o ≡ Some x → Contains (one_or_none o) x
one_has o x e = rw e (Contains-head x [])

one_from : {X : Type 0} (o : Option X) (x : X) → Contains (one_or_none o) x → o ≡ Some x
one_from None x h = absurd (Contains-nil x h)
one_from (Some y) x h = elim (Contains-cons_cases y x [] h) [ inl e ↦ ap (λ z. Some z) e | inr n ↦ absurd (Contains-nil x n) ]

-- what a number up to the last gives is there
pub gathered_has : {X : Type 0} (f : ℕ → Option X) (n k : ℕ) (x : X) → 1 ≤ k → k ≤ n → f k ≡ Some x → Contains (gathered f n) x
gathered_has f zero k x low high e = absurd (omega arith)
gathered_has f (suc n) k x low high e =
    elim (cases_lt n k) [
      | inl l ↦ let same : k ≡ suc n = omega arith in
          Contains-append_right (gathered f n) (one_or_none (f (suc n))) x (one_has (f (suc n)) x (rw same at e))
      | inr l ↦ Contains-append_left (gathered f n) (one_or_none (f (suc n))) x (gathered_has f n k x low l e)
    ]

-- what is there is what a number gives
pub gathered_from : {X : Type 0} (f : ℕ → Option X) (n : ℕ) (x : X)
    → Contains (gathered f n) x → (k : ℕ) × (1 ≤ k) × (k ≤ n) × (f k ≡ Some x)
gathered_from f zero x h = absurd (Contains-nil x h)
gathered_from f (suc n) x h =
    elim (Contains-append_cases (gathered f n) (one_or_none (f (suc n))) x h) [
      | inl old ↦ let y = gathered_from f n x old in (y.0, y.1, (let l : y.0 ≤ n = y.2 in omega arith), y.3)
      | inr new ↦ (suc n, omega arith, omega arith, one_from (f (suc n)) x new)
    ]
