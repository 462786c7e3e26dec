use Rattle.std.proofs.Common.{◌^◌, ◌-◌, ◌+◌, [], ◌∙◌, drop, get_or, refl, arith}
use Rattle.decision_claims.specs.declared.formulas.Operand.TheVariants.{Number}
use Rattle.decision_claims.specs.declared.formulas.Part.TheVariants.{Value}
use Rattle.decision_claims.specs.Formulas.{nothing}
use Rattle.decision_claims.specs.NearValues.{tally}
use Rattle.decision_claims.proofs.AlikeValues.{drop_part, near_next}
use Rattle.decision_claims.proofs.values.value_on.Goals as goal

pub loop-part-init : goal.loop-part-init
loop-part-init c =
    let first = rw (c.nothing.ensures, c.new-around.ensures) at c.with_part-here.ensures.near in
    record {
      inside = omega arith;
      fits = c.with_part-here.ensures.depth c.args.rest.now (rw c.new-around.ensures c.requires);
      near = λ cap l. near_next c.args.words cap (2 ^ 64 - 1) c.args.first c.args.rest.now
          (tally nothing []) (tally c.with_part-here.result c.with_part-here.new.around.items) l first;
    }

pub loop-part-preserved : goal.loop-part-preserved
loop-part-preserved c =
    let here = c.loop-part-test.true in
    let rest = c.args.rest.now in
    let k = c.loop-part.part-index in
    let part = get_or rest k (Value (Number 0)) in
    let same = drop_part rest k (Value (Number 0)) part here refl in
    record {
      inside = omega (arith, here);
      fits = c.with_part-here-in-loop-part.ensures.depth (drop (k + 1) rest) (rw same at c.loop-part.invariant.fits);
      near = λ cap l. (
          let before = c.loop-part.invariant.near cap l in
          let next = near_next c.args.words cap (2 ^ 64 - 1) part (drop (k + 1) rest)
          (tally c.loop-part.here c.loop-part.around.items)
          (tally c.with_part-here-in-loop-part.result c.with_part-here-in-loop-part.new.around.items)
          (rw same at before.0) c.with_part-here-in-loop-part.ensures.near in
          (next.0, next.1 ∙ rw same at before.1));
    }
