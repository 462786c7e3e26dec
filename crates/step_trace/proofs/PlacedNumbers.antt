-- Steps by their numbers.
use Rattle.std.proofs.Common.{ℕ, ◌≡◌, ◌+◌, ◌<◌, ◌≤◌, List, length, Some, None, get_or, refl, sym, ◌∙◌, suc, zero, arith}
use Rattle.std.specs.Prelude.{slice_get}
use Rattle.std.proofs.lemmas.Option.{slice_get_within, get_or_from_slice_get, none-some}
use Rattle.step_trace.specs.declared.steps.Step.{Step}
use Rattle.step_trace.specs.Traces.{step_at}
use Rattle.step_trace.specs.Pages.{BeginAlike}
use Rattle.step_trace.proofs.TickPositions.{step_exists}

-- the step of number i + 1 is at place i
pub at_place : (steps : List Step) (i : ℕ) (x : Step) → Some x ≡ step_at steps (i + 1) → (i < length steps) × (x ≡ get_or steps i x)
at_place steps i x h =
    let next : i + 1 ≡ suc i = omega arith in
    let at : slice_get steps i ≡ Some x = sym (rw next at h) in
    (slice_get_within steps i x at, sym (get_or_from_slice_get steps i x x at))

-- there is no step of number i + 1 past the end alone
pub no_place : (steps : List Step) (i : ℕ) → i < length steps → None ≡ step_at steps (i + 1) → ⊥
no_place steps i l h =
    let next : i + 1 ≡ suc i = omega arith in
    let x = step_exists steps i l in
    none-some x.0 (rw next at h ∙ x.1)

-- the steps of lists that begin alike, by their numbers
pub steps_alike : (one other : List Step) (n : ℕ) → BeginAlike one other n → (no : ℕ) → no ≤ n → step_at one no ≡ step_at other no
steps_alike one other n same zero l = refl
steps_alike one other n same (suc k) l = same k (omega (arith, l))
