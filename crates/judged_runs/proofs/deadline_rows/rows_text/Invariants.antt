use Rattle.std.proofs.Common.{◌≡◌, ◌≤◌, ◌++◌, drop, length, string_bytes}
use Rattle.decision_claims.specs.Formulas.{deadline}
use Rattle.judged_runs.specs.DeadlineRows.{deadline_lines, told_rows}
use Rattle.judged_runs.proofs.deadline_rows.rows_text.Given as goal

-- what was written, before the lines of the rows that follow, is all of it
abbrev pub invariant-loop-row : goal.invariant-loop-row
invariant-loop-row l = record {
  inside : l.row-index ≤ length l.rows;
  whole : string_bytes l.text ++ deadline_lines l.trace (deadline l.trace.config l.start l.formula) l.decided (drop l.row-index l.rows)
      ≡ told_rows l.trace (deadline l.trace.config l.start l.formula) l.decided l.rows;
}
