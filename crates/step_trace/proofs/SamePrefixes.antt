-- Prefixes of traces, by what is at each number.
use Rattle.std.proofs.Common.{ℕ, ◌≡◌, ◌<◌, ◌≤◌, List, [], ◌∷◌, length, Option, Some, None, refl, sym, ap, ◌∙◌, suc, zero, arith}
use Rattle.std.specs.Prelude.{slice_get, option_map}
use Rattle.std.proofs.lemmas.Option.{slice_get-get_or, none-some, same_Some}
use Rattle.step_trace.specs.declared.steps.Step.{Step}
use Rattle.step_trace.specs.Traces.{Recorded, step_at}
use Rattle.step_trace.specs.Ticks.{tick_at, tick_of}
use Rattle.step_trace.specs.Extensions.{BeginsWith}
use Rattle.step_trace.specs.Differences.{placed_at}
use Rattle.step_trace.proofs.StepPositions.{step_at_within}
use Rattle.step_trace.proofs.TickPositions.{step_exists}

-- a list begins with another that is no longer and the same at each of its places
begins_by_places : {X : Type 0} (list first : List X)
    → length first ≤ length list → ((k : ℕ) → k < length first → slice_get list k ≡ slice_get first k) → BeginsWith list first
begins_by_places list [] l same = record { more = list; whole = refl }
begins_by_places [] (y ∷ first) l same = absurd (let m : suc (length first) ≤ 0 = l in omega (arith, m))
begins_by_places (x ∷ list) (y ∷ first) l same =
    let rest = begins_by_places list first (let m : suc (length first) ≤ suc (length list) = l in omega (arith, m))
    (λ k m. same (suc k) (let n : suc k < suc (length first) = omega (arith, m) in n)) in
    let head : x ≡ y = same_Some x y (same 0 (let n : 0 < suc (length first) = omega arith in n)) in
    record { more = rest.more; whole = ap (λ z. z ∷ list) head ∙ ap (λ zs. y ∷ zs) rest.whole }

ticks_begin : (list first : List ℕ) → length first ≤ length list
    → ((k : ℕ) → k ≤ length first → tick_at list k ≡ tick_at first k) → BeginsWith list first
ticks_begin list first l same = begins_by_places list first l (λ k m. slice_get-get_or list k 0 (omega (arith, m, l))
    ∙ ap (λ x. Some x) (same (suc k) (omega (arith, m))) ∙ sym (slice_get-get_or first k 0 m))

-- the same step with its tick is the same step, in the same tick
same_placed : (t u : ℕ) (o p : Option Step) → option_map {U = ℕ × Step} (λ x. (t, x)) o ≡ option_map {U = ℕ × Step} (λ x. (u, x)) p
    → (o ≡ p) × ((x : Step) → o ≡ Some x → t ≡ u)
same_placed t u None None e = (refl, λ x h. absurd (none-some x h))
same_placed t u None (Some y) e = absurd (none-some (u, y) e)
same_placed t u (Some x) None e = absurd (none-some (t, x) (sym e))
same_placed t u (Some x) (Some y) e = let same = same_Some (t, x) (u, y) e in
    (ap (λ (p : ℕ × Step). Some p.1) same, λ z h. ap (λ (p : ℕ × Step). p.0) same)

module _ (trace seen : Recorded) (each : length trace.ticks ≡ length trace.steps) (each_seen : length seen.ticks ≡ length seen.steps) where
  -- there is the same at each number of a step that was seen
  abbrev IsSame : Type 0
  IsSame = (k : ℕ) → k ≤ length seen.steps → placed_at trace k ≡ placed_at seen k

  step_same : IsSame → (k : ℕ) → k ≤ length seen.steps → step_at trace.steps k ≡ step_at seen.steps k
  step_same same k l = (same_placed (tick_of trace k) (tick_of seen k) (step_at trace.steps k) (step_at seen.steps k) (same k l)).0

  tick_same : IsSame → (k : ℕ) → k ≤ length seen.ticks → tick_at trace.ticks k ≡ tick_at seen.ticks k
  tick_same same zero l = refl
  tick_same same (suc k) l =
      let within : suc k ≤ length seen.steps = omega (arith, l, each_seen) in
      let x = step_exists seen.steps k (omega (arith, within)) in
      (same_placed (tick_of trace (suc k)) (tick_of seen (suc k))
      (step_at trace.steps (suc k)) (step_at seen.steps (suc k)) (same (suc k) within)).1 x.0 (step_same same (suc k) within ∙ x.1)

  long : IsSame → (n : ℕ) → n ≡ length seen.steps → n ≤ length trace.steps
  long same zero e = omega arith
  long same (suc n) e =
      let x = step_exists seen.steps n (omega (arith, e)) in
      (step_at_within trace.steps (suc n) x.0 (step_same same (suc n) (omega (arith, e)) ∙ x.1)).1

  -- if all before a number after them is the same, what was seen is a prefix
  pub begins_from_same : (n : ℕ) → length seen.steps < n
      → ((k : ℕ) → k < n → placed_at trace k ≡ placed_at seen k) → BeginsWith trace.steps seen.steps × BeginsWith trace.ticks seen.ticks
  begins_from_same n after before =
      let same : IsSame = λ k l. before k (omega (arith, l, after)) in
      let enough = long same (length seen.steps) refl in (
        begins_by_places trace.steps seen.steps enough (λ k l. step_same same (suc k) (omega (arith, l))),
        ticks_begin trace.ticks seen.ticks (omega (arith, enough, each, each_seen)) (tick_same same),
      )
