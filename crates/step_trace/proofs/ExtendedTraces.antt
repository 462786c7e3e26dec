-- A trace that extends another, by the first of its further steps.
use Rattle.std.proofs.Common.{◌↔◌, ℕ, ◌≡◌, ◌≢◌, ◌+◌, ◌<◌, ◌≤◌, ◌⊎◌, inl, inr, List, length, Some, ap, ◌∙◌, suc, arith}
use Rattle.std.proofs.lemmas.Grind.{common_steps}
use Rattle.step_trace.specs.declared.steps.Step.{Step}
use Rattle.step_trace.specs.Traces.{Recorded, step_at}
use Rattle.step_trace.specs.Ticks.{tick_of, IsTimed}
use Rattle.step_trace.specs.Extensions.{BeginsWith, Extends}
use Rattle.step_trace.proofs.StepPositions.{step_at_within}
use Rattle.step_trace.proofs.TickPositions.{step_exists}
use Rattle.step_trace.proofs.TickOrder.{ticks_rise}

-- a list that begins with another is no shorter
begins_longer : (list first : List Step) → BeginsWith list first → length first ≤ length list
begins_longer list first b = let e = ap (λ (l : List Step). length l) b.whole in grind (arith, common_steps)

-- what extends has its first further step, if there is one, at the last tick or later
pub first_further : (longer shorter : Recorded) → Extends longer shorter
    → length longer.steps ≢ length shorter.steps → shorter.last ≤ tick_of longer (suc (length shorter.steps))
first_further longer shorter e other =
    let l = begins_longer longer.steps shorter.steps e.steps in
    let x = step_exists longer.steps (length shorter.steps) (omega (arith, l, other)) in
    e.later (suc (length shorter.steps)) x.0 (omega arith) x.1

-- and if that step is, all further steps are
pub further_from_first : (longer shorter : Recorded)
    → IsTimed longer → (length longer.steps ≡ length shorter.steps) ⊎ (shorter.last ≤ tick_of longer (suc (length shorter.steps)))
    → (k : ℕ) (x : Step) → length shorter.steps < k → step_at longer.steps k ≡ Some x → shorter.last ≤ tick_of longer k
further_from_first longer shorter time (inl e) k x l at = absurd (let w = step_at_within longer.steps k x at in omega (arith, w.1, e, l))
further_from_first longer shorter time (inr h) k x l at =
    let w = step_at_within longer.steps k x at in
    let first = step_exists longer.steps (length shorter.steps) (omega (arith, w.1, l)) in
    let r = ticks_rise longer time (suc (length shorter.steps)) k first.0 x first.1 at (omega arith) in
    omega (arith, r, h)

-- so one trace extends another, if what is tested before holds, if the first further step is in time
pub Extends-by_first : (longer shorter : Recorded) (tick : ℕ) → IsTimed longer → longer.config ≡ shorter.config
    → BeginsWith longer.steps shorter.steps → BeginsWith longer.ticks shorter.ticks → shorter.last ≤ longer.last → length
    longer.steps ≢ length shorter.steps → tick ≡ tick_of longer (length shorter.steps + 1) → (shorter.last ≤ tick) ↔ Extends longer shorter
Extends-by_first longer shorter tick time config steps ticks last other here =
    let place : length shorter.steps + 1 ≡ suc (length shorter.steps) = omega arith in
    let same : tick ≡ tick_of longer (suc (length shorter.steps)) = here ∙ ap (tick_of longer) place in (
      λ l. record {
        config = config;
        steps = steps;
        ticks = ticks;
        last = last;
        later = further_from_first longer shorter time (inr (omega (arith, l, same)));
      },
      λ e. (let f = first_further longer shorter e other in omega (arith, f, same)),
    )
