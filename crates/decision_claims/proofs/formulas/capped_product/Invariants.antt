use Rattle.std.proofs.Common.{◌≡◌, ◌≤◌, min, drop, length}
use Rattle.decision_claims.specs.Formulas.{times_all}
use Rattle.decision_claims.proofs.formulas.capped_product.Given as goal

-- the factors so far, up to the cap
abbrev pub invariant-loop-factor : goal.invariant-loop-factor
invariant-loop-factor l = record {
  inside : l.factor-index ≤ length l.factors;
  few : l.product ≤ l.cap;
  whole : min (times_all (drop l.factor-index l.factors) l.product) l.cap ≡ min (times_all l.factors l.value) l.cap;
}
