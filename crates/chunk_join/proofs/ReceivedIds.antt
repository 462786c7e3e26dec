-- The ids that a Receive takes: they rise, and each is the number of a step.
use Rattle.std.proofs.Common.{ℕ, ◌≡◌, ◌<◌, ◌≤◌, List, length, get_or, take, All, Some, Contains, sym, subst, ◌∙◌, arith}
use Rattle.std.proofs.lemmas.List.{get_or-take, get_or_default, length-take-le}
use Rattle.std.proofs.lemmas.List.Elements.{Contains-get_or}
use Rattle.std.proofs.lemmas.List.Kept.{AllPairs-from_increasing}
use Rattle.std.specs.List.Sorted.{IsStrictlyIncreasing}
use Rattle.step_trace.specs.declared.steps.Step.{Step}
use Rattle.step_trace.specs.Steps.{act_ids}
use Rattle.step_trace.specs.Traces.{Recorded, step_at, IsWellFormed}
use Rattle.step_trace.proofs.StepPositions.{step_at_within}

-- the next id of a rising list is above those before
pub above_taken : (ids : List ℕ) (n : ℕ) → IsStrictlyIncreasing ids
    → n < length ids → (s : ℕ) → Contains (take n ids) s → s < get_or ids n 0
above_taken ids n rising inside s k =
    let long = length-take-le n ids (let l : n ≤ length ids = omega arith in l) in
    let within : k.0 < n = omega (arith, k.1, long) in
    let same = sym (get_or-take n ids k.0 s within) ∙ k.2 in
    let below = AllPairs-from_increasing ids rising k.0 n 0 within inside in
    subst (λ v. v < get_or ids n 0) (sym (get_or_default ids k.0 s 0 (omega (arith, within, inside))) ∙ same) below

-- what a step takes was sent by steps of the trace
pub ids_low : (t : Recorded) (k : ℕ) (s : Step) → IsWellFormed t.config t.steps
    → step_at t.steps k ≡ Some s → All (λ n. 1 ≤ n) (act_ids s.act)
ids_low t k s sound step = λ i d l. (let e = (sound.earlier k _ s step (Contains-get_or (act_ids s.act) i d l)).1 in
    let w = (step_at_within t.steps _ _ e.1).0 in omega (arith, w))

pub ids_high : (t : Recorded) (k : ℕ) (s : Step) → IsWellFormed t.config t.steps
    → step_at t.steps k ≡ Some s → All (λ n. n ≤ length t.steps) (act_ids s.act)
ids_high t k s sound step = λ i d l. (let e = (sound.earlier k _ s step (Contains-get_or (act_ids s.act) i d l)).1 in
    (step_at_within t.steps _ _ e.1).1)
