use Rattle.std.proofs.Common.{◌∙◌, ap, arith}
use Rattle.decision_claims.specs.Claims.{deadline_times}
use Rattle.judged_runs.proofs.MeasuredFactors.{needs_both}
use Rattle.judged_runs.proofs.factors.needed_by_some.Goals as goal

pub loop-x-init : goal.loop-x-init
loop-x-init c = record {
  needed = λ k kept. omega arith;
  set = ap (λ a. a.set) c.new-analyst.ensures;
  seen = ap (λ a. a.seen) c.new-analyst.ensures;
}

pub loop-x-preserved : goal.loop-x-preserved
loop-x-preserved c =
    let own = rw (c.in-Some.is, c.loop-x.invariant.set, c.loop-x.invariant.seen) at c.in_ok-own.ensures.needed in
    record {
      needed = needs_both c.args.set c.args.trace.now c.args.decisions.now
          (deadline_times c.args.trace.now.config c.args.start c.args.formula.now) c.in-Some.own c.loop-x.factor
          c.greater-factor.result c.greater-factor.ensures
          own c.loop-x.invariant.needed;
      set = ap (λ a. a.set) c.in_ok-own.ensures.same ∙ c.loop-x.invariant.set;
      seen = ap (λ a. a.seen) c.in_ok-own.ensures.same ∙ c.loop-x.invariant.seen;
    }
