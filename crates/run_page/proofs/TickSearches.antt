-- The steps of a tick, found by their numbers.
use Rattle.std.proofs.Common.{ℕ, ◌≡◌, ◌+◌, ◌<◌, ◌≤◌, ◌↔◌, inl, inr, Some, None, arith}
use Rattle.std.proofs.lemmas.Bool.{cases_lt}
use Rattle.std.proofs.lemmas.Option.{none-some}
use Rattle.step_trace.specs.Traces.{Recorded, IsStepOf}
use Rattle.step_trace.proofs.StepPositions.{step_at_within}
use Rattle.step_trace.specs.TickSteps.{AreStepsBefore}
use Rattle.run_page.specs.TickSteps.{IsStepIn}

-- if none of the steps in between is one of the processor, there is none
pub none-inside : (t : Recorded) (p x a b n : ℕ) → AreStepsBefore t x a → AreStepsBefore t (x + 1) b → b ≤ n
    → ((k : ℕ) → a < k → k ≤ n → IsStepOf t.steps k p → ⊥) → (k : ℕ) → IsStepIn t p x k ↔ (None ≡ Some k)
none-inside t p x a b n first next end none k = (λ is. absurd (go is), λ e. absurd (none-some k e)) where
  go : IsStepIn t p x k → ⊥
  go is =
      let within = step_at_within t.steps k _ is.step.1 in
      elim (cases_lt a k) [
        | inl after ↦ elim (cases_lt b k) [
          | inl late ↦ (let r = next.rest k late within.1 in absurd (omega (arith, r, is.tick)))
          | inr m ↦ none k after (omega (arith, m, end)) is.step
        ]
        | inr early ↦ (let r = first.before k within.0 early in absurd (omega (arith, r, is.tick)))
      ]
