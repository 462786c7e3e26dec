use Rattle.std.proofs.Common.{sym, subst, arith}
use Rattle.step_trace.specs.Configurations.{Setup}
use Rattle.decision_claims.specs.Claims.{KeepsClaim, deadline_times}
use Rattle.decision_claims.specs.Decisions.{IsFrom}
use Rattle.judged_runs.proofs.MeasuredFactors.{factor_from, prefix_needs}
use Rattle.judged_runs.proofs.SeenPrefixes.{has_rows}
use Rattle.judged_runs.proofs.factors.needed_at.Goals as goal

pub least_factor-requires : goal.least_factor-requires
least_factor-requires c =
    let inside = c.requires in
    let end = c.in_ok-report.ensures.sound.time.end in
    omega (arith, inside, end)

pub returns-clause-needed : goal.returns-clause-needed
returns-clause-needed c =
    let set = c.args.analyst.now.set in
    let trace = c.args.analyst.now.seen in
    let prefix = has_rows set trace c.args.x _ c.rows-rows.result.now
    c.in_ok-report.ensures.sound c.requires c.in_ok-report.ensures.report c.rows-rows.ensures in
    let own = subst (λ (s : Setup). IsFrom (λ k. KeepsClaim set prefix.cut c.args.decisions.now
    (deadline_times s c.args.start c.args.formula.now k)) c.least_factor.result) (sym prefix.at.extends.config)
    (factor_from set prefix.cut c.args.decisions.now c.args.start c.args.formula.now c.least_factor.result
    ((rw (c.set-set.ensures, c.trace-trace.ensures, c.in_ok-report.ensures.same) at c.least_factor.ensures.run) prefix.cut
    (sym prefix.at.extends.config) prefix.at.last prefix.report)) in
    prefix_needs set trace prefix.cut c.args.decisions.now
    c.args.start c.args.x c.args.formula.now c.least_factor.result prefix.sound prefix.at own
