use Rattle.std.proofs.Common.{◌≡◌}
use Rattle.step_trace.specs.declared.rows.Row.{Row}
use Rattle.certificate_checker.proofs.RowSearches.{no_row, two_rows_found, two_rows_passed, two_rows_none, two_rows_first}
use Rattle.certificate_checker.proofs.row_order.first_repeated.Goals as goal
use Rattle.certificate_checker.proofs.row_order.first_repeated.Goals.{else-rows-k-via-then-rows-k+else-rows-k-2, else-rows-k-via-else-rows-k}

-- both bounds are those before
abbrev Repeats : Row → Row → Type 0
Repeats b r = (r.delta ≡ b.delta) × (r.phi ≡ b.phi)

pub loop-k-init : goal.loop-k-init
loop-k-init c = two_rows_first Repeats c.args.rows.now

pub returns-then-rows-k-2 : goal.returns-then-rows-k-2
returns-then-rows-k-2 c = two_rows_found Repeats c.args.rows.now c.loop-k.k no_row c.loop-k.auto.k c.loop-k-test.true
    (c.if-rows-k.true, c.if-rows-k-2.true) c.loop-k.invariant

pub loop-k-preserved : goal.loop-k-preserved
loop-k-preserved c = two_rows_passed Repeats c.args.rows.now c.loop-k.k no_row c.loop-k.auto.k (λ e. elim c.else-rows-k.branch [
  | else-rows-k-via-then-rows-k+else-rows-k-2 w ↦ w.if-rows-k-2.false e.1
  | else-rows-k-via-else-rows-k w ↦ w.if-rows-k.false e.0
]) c.loop-k.invariant

pub returns : goal.returns
returns c = two_rows_none Repeats c.args.rows.now c.loop-k.k c.loop-k-test.false c.loop-k.invariant
