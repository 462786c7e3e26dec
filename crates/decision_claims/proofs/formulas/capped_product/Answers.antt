use Rattle.std.proofs.Common.{◌^◌, ◌-◌, ◌∙◌, drop, get_or, ◌+◌, arith}
use Rattle.std.proofs.lemmas.List.{drop_more}
use Rattle.decision_claims.proofs.FormulaTimes.{product_next}
use Rattle.decision_claims.proofs.formulas.capped_product.Goals as goal

pub loop-factor-preserved : goal.loop-factor-preserved
loop-factor-preserved c =
    let inside = c.loop-factor-test.true in
    let factors = c.args.factors.now in
    let k = c.loop-factor.factor-index in
    let least = c.least-product.ensures in
    let fits = c.ranges.cap.fits in
    let here = drop_more factors k 0 inside in
    record {
      inside = omega (arith, inside);
      few = omega (arith, least);
      whole = rw (least, c.saturating_mul.ensures)
          (product_next (drop (k + 1) factors) c.loop-factor.product (get_or factors k 0) (2 ^ 64 - 1) c.args.cap
          (omega (arith, fits)) ∙ rw here at c.loop-factor.invariant.whole);
    }
