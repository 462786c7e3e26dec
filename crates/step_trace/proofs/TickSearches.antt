-- The steps before a tick, found by bisection.
use Rattle.std.proofs.Common.{ℕ, ◌+◌, ◌<◌, ◌≤◌, length, suc, zero, arith}
use Rattle.step_trace.specs.Traces.{Recorded}
use Rattle.step_trace.specs.Ticks.{tick_of, IsTimed}
use Rattle.step_trace.proofs.TickOrder.{ticks_rise}
use Rattle.step_trace.proofs.TickPositions.{step_exists}

-- ticks don't fall as numbers rise
pub tick_below : (t : Recorded) → IsTimed t → (j k : ℕ) → 1 ≤ j → j ≤ k → k ≤ length t.steps → tick_of t j ≤ tick_of t k
tick_below t time zero k low l h = absurd (omega (arith, low))
tick_below t time (suc j) zero low l h = absurd (omega (arith, l))
tick_below t time (suc j) (suc k) low l h =
    let a = step_exists t.steps j (omega (arith, l, h)) in
    let b = step_exists t.steps k (omega (arith, h)) in
    ticks_rise t time (suc j) (suc k) a.0 b.0 a.1 b.1 l

-- the first step that isn't before tick x has a number above low and at most high + 1
pub record IsSearched (t : Recorded) (x low high : ℕ) : Type 0 where
  pub order : low ≤ high
  pub within : high ≤ length t.steps
  pub before : (k : ℕ) → 1 ≤ k → k ≤ low → tick_of t k < x
  pub rest : (k : ℕ) → high < k → k ≤ length t.steps → x ≤ tick_of t k

pub searched_up : (t : Recorded) → IsTimed t → (x low high middle : ℕ)
    → middle < high → tick_of t (middle + 1) < x → IsSearched t x low high → IsSearched t x (middle + 1) high
searched_up t time x low high middle h l s = record {
  order = omega (arith, h);
  within = s.within;
  before = λ k a b. (let r = tick_below t time k (middle + 1) a b (omega (arith, h, s.within)) in omega (arith, r, l));
  rest = s.rest;
}

pub searched_down : (t : Recorded) → IsTimed t → (x low high middle : ℕ)
    → low ≤ middle → middle < high → x ≤ tick_of t (middle + 1) → IsSearched t x low high → IsSearched t x low middle
searched_down t time x low high middle o h l s = record {
  order = o;
  within = omega (arith, s.within, h);
  before = s.before;
  rest = λ k a b. (let r = tick_below t time (middle + 1) k (omega arith) (omega (arith, a)) b in omega (arith, r, l));
}
