use Rattle.std.proofs.Common.{ap, arith}
use Rattle.decision_claims.specs.Claims.{deadline_times}
use Rattle.judged_runs.proofs.MeasuredFactors.{factor_in_time}
use Rattle.judged_runs.proofs.factors.least_from.Goals as goal

pub returns-clause-factor : goal.returns-clause-factor
returns-clause-factor c =
    let past = c.loop-so_far-test.false in
    factor_in_time c.args.set c.args.trace.now c.args.decisions.now
    c.args.start c.args.formula.now c.loop-so_far.so_far.ahead.tick c.loop-so_far.so_far.factor
    (λ y l m. c.requires.decided y (omega (arith, past, l)) m)
    c.loop-so_far.invariant.reached.needed c.loop-so_far.invariant.reached.ahead.before

pub loop-so_far-init : goal.loop-so_far-init
loop-so_far-init c = record {
  reached = record {
    needed = c.requires.needed;
    ahead = c.beginning.ensures c.args.set c.args.trace.now c.args.decisions.now
        (deadline_times c.args.trace.now.config c.args.start c.args.formula.now c.args.needed);
  };
  set = ap (λ a. a.set) c.new-analyst.ensures;
  seen = ap (λ a. a.seen) c.new-analyst.ensures;
}
