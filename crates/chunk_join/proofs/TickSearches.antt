-- The steps of a tick, found by their numbers.
use Rattle.std.proofs.Common.{ℕ, ◌≡◌, ◌+◌, ◌<◌, ◌≤◌, inl, inr, length, arith}
use Rattle.std.proofs.lemmas.Bool.{cases_lt}
use Rattle.step_trace.specs.Traces.{Recorded}
use Rattle.step_trace.specs.Ticks.{tick_of, IsTimed}
use Rattle.step_trace.proofs.TickPositions.{tick_of-limit}
use Rattle.step_trace.proofs.TickSearches.{tick_below}
use Rattle.step_trace.specs.TickSteps.{AreStepsBefore}
use Rattle.chunk_join.specs.TickSteps.{AreStepsOf}

-- the steps up to this number come before tick x
pub record ComeBefore (t : Recorded) (x n : ℕ) : Type 0 where
  pub within : n ≤ length t.steps
  pub before : (k : ℕ) → 1 ≤ k → k ≤ n → tick_of t k < x

pub come_stop : (t : Recorded) → IsTimed t → (x n : ℕ) → x < tick_of t (n + 1) → ComeBefore t (x + 1) n → AreStepsBefore t (x + 1) n
come_stop t time x n h s = record {
  within = s.within;
  before = s.before;
  rest = λ k a b. (let r = tick_below t time (n + 1) k (omega arith) (omega (arith, a)) b in omega (arith, r, h));
}

-- up to the last tick come all steps
pub all_steps : (t : Recorded) → IsTimed t → (x : ℕ) → t.last ≤ x → AreStepsBefore t (x + 1) (length t.steps)
all_steps t time x l = record {
  within = omega arith;
  before = λ k a b. omega (arith, tick_of-limit t time k, l);
  rest = λ k a b. absurd (omega (arith, a, b));
}

-- the steps in between are in the tick
pub steps_inside : (t : Recorded) (x a b k : ℕ) → AreStepsOf t x a b → a ≤ k → k < b → tick_of t (k + 1) ≡ x
steps_inside t x a b k o l h =
    let above = o.next.before (k + 1) (omega arith) (omega (arith, h)) in
    let below = o.first.rest (k + 1) (omega (arith, l)) (omega (arith, h, o.next.within)) in
    omega (arith, above, below)

pub steps_order : (t : Recorded) (x a b : ℕ) → AreStepsOf t x a b → a ≤ b
steps_order t x a b o = elim (cases_lt b a) [
  | inl l ↦ absurd (let within = o.first.within in
      let below = o.first.before a (omega (arith, l)) (omega arith) in omega (arith, o.next.rest a l within, below))
  | inr n ↦ n
]
