-- Steps that are appended, one after the other.
use Rattle.std.proofs.Common.{ℕ, ◌≡◌, ◌+◌, List, [], ◌∷◌, length, ◌<◌, Option, Some, None, Ok, Err, inl, inr, refl, arith}
use Rattle.step_trace.specs.declared.steps.Step.{Step}
use Rattle.step_trace.specs.declared.traces.PushError.{PushError}
use Rattle.step_trace.specs.declared.loose_steps.StepRefused.{StepRefused}
use Rattle.step_trace.specs.Traces.{Recorded}
use Rattle.step_trace.specs.Ticks.{with_step}
use Rattle.step_trace.specs.TickRefusals.{refusal_in}
use Rattle.step_trace.specs.AppendedSteps.{appended, unless_refused, IsReached, IsStepRefusal}

-- no step is left
pub appended-none : (t : Recorded) (xs : List Step) (ts : List ℕ) → length xs ≡ 0 → appended t xs ts ≡ Ok t
unfolding appended
appended-none t [] ts h = refl
appended-none t (x ∷ xs) ts h = absurd (omega (arith, h))

-- a step that is taken
pub appended-next : (t : Recorded) (x : Step) (xs : List Step) (tick : ℕ) (ts : List ℕ)
    → refusal_in t tick x ≡ None → appended t (x ∷ xs) (tick ∷ ts) ≡ appended (with_step t tick x) xs ts
unfolding appended
appended-next t x xs tick ts h = rw h refl

-- a step that is refused
pub appended-refused : (t : Recorded) (x : Step) (xs : List Step) (tick : ℕ) (ts : List ℕ) (e : StepRefused)
    → IsStepRefusal (unless_refused (refusal_in t tick x) (length t.steps + 1) (Ok t)) e → IsStepRefusal (appended t (x ∷ xs) (tick ∷ ts)) e
unfolding appended
appended-refused t x xs tick ts e h other = go (refusal_in t tick x) (h other) where
  go : (why : Option PushError) → unless_refused why (length t.steps + 1) (Ok t) ≡ Err e
      → unless_refused why (length t.steps + 1) (appended (with_step t tick x) xs ts) ≡ Err e
  go None k = cc k
  go (Some why) k = k

-- the first of several steps is reached
pub reached-first : (t : Recorded) (xs : List Step) (ts : List ℕ)
    → 0 < length xs → length ts ≡ length xs → IsReached t xs ts (length t.steps + 1)
unfolding IsReached
reached-first t [] ts some each = absurd (omega (arith, some))
reached-first t (x ∷ xs) [] some each = absurd (omega (arith, each))
reached-first t (x ∷ xs) (tick ∷ ts) some each = inl refl

-- behind a step that is taken, those are reached that the longer trace reaches
pub reached-next : (t : Recorded) (x : Step) (xs : List Step) (tick : ℕ) (ts : List ℕ) (at : ℕ)
    → refusal_in t tick x ≡ None → IsReached (with_step t tick x) xs ts at → IsReached t (x ∷ xs) (tick ∷ ts) at
unfolding IsReached
reached-next t x xs tick ts at none h = inr (none, h)
