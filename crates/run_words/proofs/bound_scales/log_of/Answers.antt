use Rattle.std.proofs.Common.{ℕ, ◌≤◌, ◌<◌, ◌^◌, ◌-◌, ◌∙◌, sym, ap, subst, arith}
use Rattle.run_words.specs.BoundScales.{log_below}
use Rattle.run_words.proofs.PowersOfTwo.{half_power, log_below-here, log_below-next, log-limit}
use Rattle.run_words.proofs.bound_scales.log_of.Goals as goal

pub returns-then-power-number-clause-value : goal.returns-then-power-number-clause-value
returns-then-power-number-clause-value c =
    let e = c.loop-exponent.exponent in
    let n = c.min-number.result in
    let half = half_power e c.loop-exponent.power c.loop-exponent-test.true c.loop-exponent.invariant.power in
    let low : 2 ^ (e - 1) ≤ n = subst (λ (p : ℕ). p ≤ n) half c.if-power-number.true in
    rw half (sym (log_below-here e n c.loop-exponent-test.true low)
    ∙ c.loop-exponent.invariant.left ∙ ap (λ (m : ℕ). log_below 21 m) c.min-number.ensures)

pub returns-then-power-number-clause-limit : goal.returns-then-power-number-clause-limit
returns-then-power-number-clause-limit c =
    let e = c.loop-exponent.exponent in
    let half = half_power e c.loop-exponent.power c.loop-exponent-test.true c.loop-exponent.invariant.power in
    log-limit e c.min-number.result _ c.loop-exponent-test.true c.loop-exponent.invariant.high half c.loop-exponent.invariant.below

pub loop-exponent-preserved : goal.loop-exponent-preserved
loop-exponent-preserved c =
    let e = c.loop-exponent.exponent in
    let n = c.min-number.result in
    let half = half_power e c.loop-exponent.power c.loop-exponent-test.true c.loop-exponent.invariant.power in
    let high = c.loop-exponent.invariant.high in
    let under : n < 2 ^ (e - 1) = subst (λ (p : ℕ). n < p) half c.if-power-number.false in
    record {
      power = half;
      high = omega (arith, high);
      below = under;
      left = sym (log_below-next e n c.loop-exponent-test.true under) ∙ c.loop-exponent.invariant.left;
    }
