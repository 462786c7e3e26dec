use Rattle.std.proofs.Common.{◌≡◌, ◌≤◌, Some, arith, refl, subst, sym}
use Rattle.front.specs.Reports.{row_at}
use Rattle.text_verdicts.specs.Cuts.{IsTickOf}
use Rattle.text_commands.proofs.report_parts.row_at.Goals as goal

-- a tick of the trace has a row
pub unreachable-requires : goal.unreachable-requires
unreachable-requires c =
    let inside : IsTickOf c.args.trace.now c.args.tick = c.if-not-has_tick.ensures.exact.0 refl in
    let len = c.in_ok-report.ensures.len in
    let high : c.args.tick ≤ c.in_ok-report.report.len = omega (arith, inside.1, len) in
    c.in-None.ensures.serves c.args.set c.args.trace.now c.if-not-has_tick.ensures.timed c.in_ok-report.ensures.report len inside.0 high

-- and that is the row which applies to it
pub returns-clause-row : goal.returns-clause-row
returns-clause-row c =
    let inside : IsTickOf c.args.trace.now c.args.tick = c.if-not-has_tick.ensures.exact.0 refl in
    let report = c.in_ok-report.report in
    let len = c.in_ok-report.ensures.len in
    let high : c.args.tick ≤ report.len = omega (arith, inside.1, len) in
    record {
      rows = report.rows;
      report = c.in_ok-report.ensures.report;
      inside = inside;
      last = subst (λ n. row_at (record { len = n; rows = report.rows }) c.args.tick ≡ Some c.in-Some.row) len (sym c.in-Some.ensures.row);
      serves = c.in-Some.ensures.serves c.args.set
          c.args.trace.now c.if-not-has_tick.ensures.timed c.in_ok-report.ensures.report len inside.0 high;
    }
