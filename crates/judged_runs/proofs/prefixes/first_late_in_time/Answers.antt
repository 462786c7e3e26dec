use Rattle.std.proofs.Common.{refl, true≢false, ap, arith}
use Rattle.decision_claims.specs.Formulas.{deadline}
use Rattle.decision_claims.proofs.FrontClaims.{deadline-later}
use Rattle.decision_claims.proofs.PrefixClaims.{KeepsClaim-in_time}
use Rattle.judged_runs.proofs.EarlierPrefixes.{before_all, late_refutes}
use Rattle.judged_runs.proofs.prefixes.first_late_in_time.Goals as goal

pub returns-in-LateBy-clause-kept : goal.returns-in-LateBy-clause-kept
returns-in-LateBy-clause-kept c = (
  λ none. absurd (true≢false none),
  λ kept. absurd (late_refutes c.args.set c.args.trace.now c.args.decisions.now _ c.in-LateBy.late
      c.last_tick.ensures.well_formed
      (rw (c.in-LateBy.is, c.loop-ahead.invariant.set, c.loop-ahead.invariant.seen) at c.in_ok-late.ensures.look) kept),
)

pub returns-clause-kept : goal.returns-clause-kept
returns-clause-kept c =
    let past = c.loop-ahead-test.false in
    let last = c.last_tick.ensures.value in (
      λ none. before_all c.args.set c.args.trace.now c.args.decisions.now _ c.loop-ahead.ahead.tick (λ y l m.
          c.undecided_until-end.ensures.decided y (omega (arith, past, l)) (omega (arith, m, last))) c.loop-ahead.invariant.ahead.before,
      λ kept. refl,
    )

pub returns-in-LateBy-clause-whole : goal.returns-in-LateBy-clause-whole
returns-in-LateBy-clause-whole c = λ none. absurd (true≢false none)

pub returns-clause-whole : goal.returns-clause-whole
returns-clause-whole c = λ none. KeepsClaim-in_time c.args.set c.args.trace.now c.args.decisions.now _ c.last_tick.ensures.well_formed
    (deadline-later c.args.trace.now.config c.args.start c.args.formula.now) ((returns-clause-kept c).0 none)

pub loop-ahead-init : goal.loop-ahead-init
loop-ahead-init c = record {
  ahead = c.beginning-ahead.ensures c.args.set c.args.trace.now c.args.decisions.now
      (deadline c.args.trace.now.config c.args.start c.args.formula.now);
  set = ap (λ a. a.set) c.new-analyst.ensures;
  seen = ap (λ a. a.seen) c.new-analyst.ensures;
}
