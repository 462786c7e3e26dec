use Rattle.std.proofs.Common.{sym, subst, List}
use Rattle.step_trace.specs.declared.rows.Row.{Row}
use Rattle.step_trace.specs.Fronts.{IsReport}
use Rattle.judged_runs.proofs.KeptClaims.{IfOk-weaker}
use Rattle.judged_runs.proofs.details.report_rows.Goals as goal

pub returns : goal.returns
returns c =
    let report : IsReport c.args.set c.args.trace.now c.rows.result.now =
    subst (λ (rows : List Row). IsReport c.args.set c.args.trace.now rows) (sym c.rows.ensures)
    (c.in_ok-report.ensures.report c.args.set c.args.trace.now c.in_ok-stairs.ensures) in
    IfOk-weaker _ _ c.rows_text.result (λ text told. record {
      rows = c.rows.result.now;
      report = report;
      decided = c.latest_decision-decided.result;
      from_then = c.latest_decision-decided.ensures;
      told = told;
    }) c.rows_text.ensures
