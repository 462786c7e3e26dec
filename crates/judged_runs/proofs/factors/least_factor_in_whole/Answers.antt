use Rattle.std.proofs.Common.{refl, sym, subst, List}
use Rattle.step_trace.specs.declared.rows.Row.{Row}
use Rattle.step_trace.specs.Fronts.{IsReport}
use Rattle.judged_runs.proofs.MeasuredFactors.{factor_from}
use Rattle.judged_runs.proofs.factors.least_factor_in_whole.Goals as goal

pub returns : goal.returns
returns c =
    let report : IsReport c.args.set c.args.trace.now c.rows.result.now =
    subst (λ (rows : List Row). IsReport c.args.set c.args.trace.now rows) (sym c.rows.ensures)
    (c.in_ok-report.ensures.report c.args.set c.args.trace.now c.in_ok-stairs.ensures) in
    factor_from c.args.set c.args.trace.now c.args.decisions.now c.args.start c.args.formula.now c.least_factor.result
    (c.least_factor.ensures.run c.args.trace.now refl (sym c.last_tick-end.ensures.value) report)
