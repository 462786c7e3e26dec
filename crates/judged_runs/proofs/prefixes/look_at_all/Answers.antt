use Rattle.std.proofs.Common.{refl, arith}
use Rattle.decision_claims.specs.Formulas.{deadline}
use Rattle.decision_claims.proofs.FrontClaims.{deadline-later, deadline-monotone}
use Rattle.judged_runs.proofs.EarlierPrefixes.{ahead_of_look, late_in_time, none_due}
use Rattle.judged_runs.proofs.FallingRows.{falling}
use Rattle.judged_runs.proofs.SeenPrefixes.{has_rows}
use Rattle.judged_runs.proofs.prefixes.look_at_all.Goals as goal

pub next_look-next-requires-clause-falling : goal.next_look-next-requires-clause-falling
next_look-next-requires-clause-falling c =
    let prefix = has_rows c.args.analyst.now.set c.args.analyst.now.seen c.args.x
    _ c.rows-rows.result.now c.in_ok-report.ensures.sound c.requires.inside c.in_ok-report.ensures.report c.rows-rows.ensures in
    falling c.args.analyst.now.set prefix.cut c.rows-rows.result.now prefix.report

pub returns-in-Some-clause-look : goal.returns-in-Some-clause-look
returns-in-Some-clause-look c =
    let set = c.args.analyst.now.set in
    let trace = c.args.analyst.now.seen in
    let prefix = has_rows c.args.analyst.now.set c.args.analyst.now.seen c.args.x
    _ c.rows-rows.result.now c.in_ok-report.ensures.sound c.requires.inside c.in_ok-report.ensures.report c.rows-rows.ensures in
    let late =
    (rw (c.set-set.ensures, c.trace-trace.ensures, c.in_ok-report.ensures.same) at c.in-Some.ensures.late) prefix.cut prefix.at.last in
    late_in_time set trace prefix.cut c.rows-rows.result.now c.args.decisions.now
    (deadline trace.config c.args.start c.args.formula.now) c.args.x c.in-Some.late
    prefix.sound prefix.at (deadline-later trace.config c.args.start c.args.formula.now) prefix.report c.requires.before late

pub returns-clause-look : goal.returns-clause-look
returns-clause-look c =
    let set = c.args.analyst.now.set in
    let trace = c.args.analyst.now.seen in
    let prefix = has_rows c.args.analyst.now.set c.args.analyst.now.seen c.args.x
    _ c.rows-rows.result.now c.in_ok-report.ensures.sound c.requires.inside c.in_ok-report.ensures.report c.rows-rows.ensures in
    let look = rw (c.trace-trace.ensures, c.in_ok-report.ensures.same) at c.next_look-next.ensures.next in
    let claim = (rw (c.set-set.ensures, c.trace-trace.ensures, c.in_ok-report.ensures.same) at c.in-None.ensures.claim)
    prefix.cut prefix.at.last prefix.report in (
      look.tick.later,
      ahead_of_look set trace prefix.cut c.rows-rows.result.now c.args.decisions.now (deadline trace.config c.args.start c.args.formula.now)
          c.args.x c.next_look-next.result (deadline-monotone trace.config c.args.start c.args.formula.now)
          prefix.sound prefix.at prefix.report (claim.0 refl) look c.requires.before,
    )

-- no row is due
pub returns-then-x-next-clause-look : goal.returns-then-x-next-clause-look
returns-then-x-next-clause-look c =
    let set = c.args.analyst.now.set in
    let trace = c.args.analyst.now.seen in
    let rows = c.rows-rows.result.now in
    let prefix = has_rows c.args.analyst.now.set c.args.analyst.now.seen c.args.x
    _ c.rows-rows.result.now c.in_ok-report.ensures.sound c.requires.inside c.in_ok-report.ensures.report c.rows-rows.ensures in
    let look = rw (c.trace-trace.ensures, c.in_ok-report.ensures.same) at c.next_look-next.ensures.next in
    let due = deadline trace.config c.args.start c.args.formula.now in
    let monotone = deadline-monotone trace.config c.args.start c.args.formula.now in
    let beyond = c.if-x-next.true in
    let kept = none_due set prefix.cut rows c.args.decisions.now due
    c.args.x c.next_look-next.result.tick monotone prefix.report prefix.at.last (omega (arith, beyond)) (look.tick.of_rows beyond) in (
      look.tick.later,
      ahead_of_look set trace prefix.cut rows c.args.decisions.now
          due c.args.x c.next_look-next.result monotone prefix.sound prefix.at prefix.report kept look c.requires.before,
    )
