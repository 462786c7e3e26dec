use Rattle.std.proofs.Common.{ℕ, Some, None, sym, subst, arith}
use Rattle.step_trace.specs.Configurations.{Setup}
use Rattle.decision_claims.specs.Claims.{KeepsClaim, deadline_times}
use Rattle.decision_claims.specs.Decisions.{IsFrom}
use Rattle.judged_runs.proofs.FallingRows.{falling}
use Rattle.judged_runs.proofs.MeasuredFactors.{looked, needs_both, prefix_needs}
use Rattle.judged_runs.proofs.SeenPrefixes.{has_rows}
use Rattle.judged_runs.proofs.factors.measure_all.Goals as goal

pub least_factor-requires : goal.least_factor-requires
least_factor-requires c =
    let inside = c.requires.inside in
    let end = c.in_ok-report.ensures.sound.time.end in
    omega (arith, inside, end)

pub next_look-ahead-requires-clause-falling : goal.next_look-ahead-requires-clause-falling
next_look-ahead-requires-clause-falling c =
    let set = c.args.analyst.now.set in
    let prefix = has_rows set c.args.analyst.now.seen c.args.so_far.ahead.tick
    _ c.rows-rows.result.now c.in_ok-report.ensures.sound c.requires.inside c.in_ok-report.ensures.report c.rows-rows.ensures in
    falling set prefix.cut c.rows-rows.result.now prefix.report

pub returns-in-Some-clause-measured : goal.returns-in-Some-clause-measured
returns-in-Some-clause-measured c =
    let set = c.args.analyst.now.set in
    let trace = c.args.analyst.now.seen in
    let x = c.args.so_far.ahead.tick in
    let prefix = has_rows set trace x _ c.rows-rows.result.now
    c.in_ok-report.ensures.sound c.requires.inside c.in_ok-report.ensures.report c.rows-rows.ensures in
    let look = rw (c.trace-trace.ensures, c.in_ok-report.ensures.same) at c.next_look-ahead.ensures.next in
    let own = subst (λ (s : Setup). IsFrom (λ k. KeepsClaim set prefix.cut c.args.decisions.now
    (deadline_times s c.args.start c.args.formula.now k)) (Some c.in-Some.own)) (sym prefix.at.extends.config)
    ((rw (c.set.ensures, c.trace-trace.ensures, c.in_ok-report.ensures.same) at c.in-Some.ensures.run) prefix.cut
    (sym prefix.at.extends.config) prefix.at.last prefix.report) in
    let low = prefix_needs set trace prefix.cut c.args.decisions.now c.args.start x c.args.formula.now
    (Some c.in-Some.own) prefix.sound prefix.at own in
    let more = c.greater-factor.ensures in (
      look.tick.later,
      record {
        needed = needs_both set trace c.args.decisions.now (deadline_times trace.config c.args.start c.args.formula.now)
            c.in-Some.own c.args.so_far.factor c.greater-factor.result more low c.requires.reached.needed;
        ahead = looked set trace prefix.cut c.rows-rows.result.now c.args.decisions.now c.args.start c.args.formula.now
            c.in_ok-times-in-Some.times c.args.so_far.factor c.in-Some.own c.greater-factor.result x c.next_look-ahead.result
            prefix.sound prefix.at prefix.report more c.in_ok-times-in-Some.ensures c.requires.reached.ahead.before own look;
      },
    )

-- no factor is enough for the prefix
pub returns-clause-measured : goal.returns-clause-measured
returns-clause-measured c =
    let set = c.args.analyst.now.set in
    let trace = c.args.analyst.now.seen in
    let x = c.args.so_far.ahead.tick in
    let prefix = has_rows set trace x _ c.rows-rows.result.now
    c.in_ok-report.ensures.sound c.requires.inside c.in_ok-report.ensures.report c.rows-rows.ensures in
    let none = subst (λ (s : Setup). (k : ℕ) → ¬ KeepsClaim set prefix.cut c.args.decisions.now
    (deadline_times s c.args.start c.args.formula.now k)) (sym prefix.at.extends.config)
    ((rw (c.set.ensures, c.trace-trace.ensures, c.in_ok-report.ensures.same) at c.in-None.ensures.run) prefix.cut
    (sym prefix.at.extends.config) prefix.at.last prefix.report) in
    prefix_needs set trace prefix.cut c.args.decisions.now c.args.start x c.args.formula.now None prefix.sound prefix.at none
