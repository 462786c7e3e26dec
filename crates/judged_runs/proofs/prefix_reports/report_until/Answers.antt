use Rattle.std.proofs.lemmas.Result.{IfOk-weaker}
use Rattle.suffix_staircase.proofs.LevelBounds.{AreLevels-from_first}
use Rattle.judged_runs.proofs.prefix_reports.report_until.Goals as goal

pub returns-clause-report : goal.returns-clause-report
returns-clause-report c = IfOk-weaker c.front.result _ _ (λ report holds cut sound at. holds c.args.analyst.now.set cut
    (AreLevels-from_first c.args.analyst.now.set cut _ (c.in_ok-stairs.ensures.stairs cut sound at))) c.front.ensures.report
