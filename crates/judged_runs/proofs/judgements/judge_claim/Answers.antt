use Rattle.std.proofs.Common.{sym, subst, refl, arith, List}
use Rattle.std.specs.Prelude.{IsNone}
use Rattle.step_trace.specs.declared.rows.Row.{Row}
use Rattle.step_trace.specs.Fronts.{IsReport}
use Rattle.judged_runs.proofs.judgements.judge_claim.Goals as goal

pub late_by-requires-clause-report : goal.late_by-requires-clause-report
late_by-requires-clause-report c = subst (λ (rows : List Row). IsReport c.args.set c.args.trace.now rows)
    (sym c.rows-rows.ensures) (c.in_ok-report.ensures.report c.args.set c.args.trace.now c.in_ok-stairs.ensures)

-- nothing is late, and too little was tested
pub returns-then-tested-demands : goal.returns-then-tested-demands
returns-then-tested-demands c =
    let none : IsNone c.in_ok-late.field-0 = rw c.in-None.is refl in
    let report : IsReport c.args.set c.args.trace.now c.rows-rows.result.now =
    subst (λ (rows : List Row). IsReport c.args.set c.args.trace.now rows) (sym c.rows-rows.ensures)
    (c.in_ok-report.ensures.report c.args.set c.args.trace.now c.in_ok-stairs.ensures) in
    let due = c.tested_by-tested.ensures.due in (
      (c.requires.sound, c.in_ok-late.ensures.kept none),
      record { rows = c.rows-rows.result.now; report = report; count_is = due; few = c.if-tested-demands.true },
    )

-- nothing is wrong
pub returns : goal.returns
returns c =
    let none : IsNone c.in_ok-late.field-0 = rw c.in-None.is refl in
    let report : IsReport c.args.set c.args.trace.now c.rows-rows.result.now =
    subst (λ (rows : List Row). IsReport c.args.set c.args.trace.now rows) (sym c.rows-rows.ensures)
    (c.in_ok-report.ensures.report c.args.set c.args.trace.now c.in_ok-stairs.ensures) in
    let enough = c.if-tested-demands.false in (
      (c.requires.sound, c.in_ok-late.ensures.kept none),
      record {
        rows = c.rows-rows.result.now;
        report = report;
        tested_is = c.tested_by-tested.ensures.tested (c.in_ok-late.ensures.rows none);
        enough = omega (arith, enough);
      },
    )
