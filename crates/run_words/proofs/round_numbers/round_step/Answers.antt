use Rattle.std.proofs.Common.{◌∙◌, sym, arith}
use Rattle.run_words.proofs.RoundSteps.{all-left, divisor, first-here, first-later}
use Rattle.run_words.proofs.round_numbers.round_step.Goals as goal

pub returns-then-limit-max-clause-value : goal.returns-then-limit-max-clause-value
returns-then-limit-max-clause-value c =
    let i = c.loop-step.step-index in
    let is = divisor i c.max.result c.loop-step-test.true c.max.ensures in
    let told = divisor i c.max-then-limit-max.result c.loop-step-test.true c.max-then-limit-max.ensures in
    told ∙ sym is ∙ first-here i c.max.result c.args.limit c.args.most c.loop-step-test.true is c.if-limit-max.true
    ∙ c.loop-step.invariant.left

pub loop-step-init : goal.loop-step-init
loop-step-init c = record { inside = grind arith; left = all-left c.args.limit c.args.most }

pub loop-step-preserved : goal.loop-step-preserved
loop-step-preserved c =
    let i = c.loop-step.step-index in
    let is = divisor i c.max.result c.loop-step-test.true c.max.ensures in
    record {
      inside = omega (arith, c.loop-step-test.true);
      left = first-later i c.max.result c.args.limit c.args.most c.loop-step-test.true is c.if-limit-max.false ∙ c.loop-step.invariant.left;
    }
