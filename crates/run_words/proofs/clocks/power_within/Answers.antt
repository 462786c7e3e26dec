use Rattle.std.proofs.Common.{◌∙◌, refl, arith}
use Rattle.run_words.proofs.PowersOfTen.{all-left, first-here, first-later}
use Rattle.run_words.proofs.clocks.power_within.Goals as goal

pub returns-then-power-number : goal.returns-then-power-number
returns-then-power-number c =
    first-here c.loop-power.power-index _ c.args.number c.loop-power-test.true refl c.if-power-number.true ∙ c.loop-power.invariant.left

pub loop-power-init : goal.loop-power-init
loop-power-init c = record { inside = grind arith; left = all-left c.args.number }

pub loop-power-preserved : goal.loop-power-preserved
loop-power-preserved c = record {
  inside = omega (arith, c.loop-power-test.true);
  left = first-later c.loop-power.power-index _ c.args.number c.loop-power-test.true refl c.if-power-number.false
      ∙ c.loop-power.invariant.left;
}
