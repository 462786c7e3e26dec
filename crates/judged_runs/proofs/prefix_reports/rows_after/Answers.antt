use Rattle.std.proofs.Common.{sym, subst, arith}
use Rattle.std.proofs.lemmas.Result.{IfOk-weaker}
use Rattle.decision_claims.proofs.PrefixClaims.{has_cut}
use Rattle.judged_runs.specs.LaterRows.{AreRowsAfter}
use Rattle.judged_runs.proofs.LaterRows.{AreRowsAfter-levels}
use Rattle.judged_runs.proofs.prefix_reports.rows_after.Goals as goal

pub later_rows-requires : goal.later_rows-requires
later_rows-requires c =
    let found = c.in_ok-stairs.ensures in
    let d = has_cut c.args.analyst.now.seen c.args.tick found.sound c.requires.inside in
    let count = (found.stairs d.cut d.sound d.at).count in
    let end = d.sound.time.end in
    omega (arith, count, end)

pub returns-clause-rows : goal.returns-clause-rows
returns-clause-rows c = IfOk-weaker c.later_rows.result _ _
    (λ rows same cut sound at. subst (AreRowsAfter c.args.analyst.now.set cut c.args.after) (sym same)
    (AreRowsAfter-levels c.args.analyst.now.set cut c.args.after _ (c.in_ok-stairs.ensures.stairs cut sound at))) c.later_rows.ensures
