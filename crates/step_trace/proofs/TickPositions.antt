-- Ticks by the numbers of their steps, as a trace grows at its end.
use Rattle.std.proofs.Common.{ℕ, ◌≡◌, ◌<◌, ◌≤◌, inl, inr, List, [], ◌∷◌, ◌++◌, length, Some, refl, suc, zero, arith}
use Rattle.std.specs.Prelude.{slice_index_or}
use Rattle.std.proofs.lemmas.Bool.{cases_lt}
use Rattle.step_trace.specs.declared.steps.Step.{Step}
use Rattle.step_trace.specs.Traces.{Recorded, step_at}
use Rattle.step_trace.specs.Ticks.{tick_at, tick_of, IsTimed}

index-old : (ts : List ℕ) (t k : ℕ) → k < length ts → slice_index_or (ts ++ t ∷ []) k 0 ≡ slice_index_or ts k 0
index-old [] t k l = absurd (omega arith)
index-old (u ∷ ts) t zero l = refl
index-old (u ∷ ts) t (suc k) l = index-old ts t k (let m : suc k < suc (length ts) = l in omega arith)

index-last : (ts : List ℕ) (t : ℕ) → slice_index_or (ts ++ t ∷ []) (length ts) 0 ≡ t
index-last [] t = refl
index-last (u ∷ ts) t = index-last ts t

-- a step keeps its tick
pub tick_at-push_old : (ts : List ℕ) (t k : ℕ) → k ≤ length ts → tick_at (ts ++ t ∷ []) k ≡ tick_at ts k
tick_at-push_old ts t zero l = refl
tick_at-push_old ts t (suc k) l = index-old ts t k (omega arith)

-- the last step is in the last tick that was put there
pub tick_at-push_last : (ts : List ℕ) (t : ℕ) → tick_at (ts ++ t ∷ []) (suc (length ts)) ≡ t
tick_at-push_last ts t = index-last ts t

-- up to the length of a list of steps each number has its step
pub step_exists : (steps : List Step) (k : ℕ) → k < length steps → (x : Step) × (step_at steps (suc k) ≡ Some x)
step_exists [] k l = absurd (omega arith)
step_exists (x ∷ steps) zero l = (x, refl)
step_exists (x ∷ steps) (suc k) l = step_exists steps k (let m : suc k < suc (length steps) = l in omega arith)

-- the same by the number
pub step_there : (steps : List Step) (n : ℕ) → 1 ≤ n → n ≤ length steps → (x : Step) × (step_at steps n ≡ Some x)
step_there steps zero low high = absurd (omega (arith, low))
step_there steps (suc k) low high = step_exists steps k (omega (arith, high))

index-past : (ts : List ℕ) (k : ℕ) → length ts ≤ k → slice_index_or ts k 0 ≡ 0
index-past [] zero l = refl
index-past [] (suc k) l = refl
index-past (u ∷ ts) zero l = absurd (omega arith)
index-past (u ∷ ts) (suc k) l = index-past ts k (let m : suc (length ts) ≤ suc k = l in omega arith)

-- no tick is above the last
pub tick_of-limit : (trace : Recorded) → IsTimed trace → (k : ℕ) → tick_of trace k ≤ trace.last
tick_of-limit trace time zero = omega arith
tick_of-limit trace time (suc k) = elim (cases_lt k (length trace.steps)) [
  | inl l ↦ (let x = step_exists trace.steps k l in (time.inside (suc k) x.0 x.1).1)
  | inr l ↦ (let none = index-past trace.ticks k (let long = time.each in omega (arith, long, l)) in omega (arith, none))
]
