use Rattle.std.proofs.Common.{◌≤◌, arith}
use Rattle.certificate_checker.proofs.RowSearches.{no_row, two_rows_found, two_rows_passed, two_rows_none, two_rows_first}
use Rattle.certificate_checker.proofs.row_order.first_not_rising.Goals as goal

pub loop-k-init : goal.loop-k-init
loop-k-init c = two_rows_first (λ b r. r.gst ≤ b.gst) c.args.rows.now

pub returns-then-rows-k : goal.returns-then-rows-k
returns-then-rows-k c = two_rows_found (λ b r. r.gst ≤ b.gst)
    c.args.rows.now c.loop-k.k no_row c.loop-k.auto.k c.loop-k-test.true c.if-rows-k.true c.loop-k.invariant

pub loop-k-preserved : goal.loop-k-preserved
loop-k-preserved c = two_rows_passed (λ b r. r.gst ≤ b.gst) c.args.rows.now c.loop-k.k no_row c.loop-k.auto.k
    (λ l. let n = c.if-rows-k.false in omega (arith, n, l)) c.loop-k.invariant

pub returns : goal.returns
returns c = two_rows_none (λ b r. r.gst ≤ b.gst) c.args.rows.now c.loop-k.k c.loop-k-test.false c.loop-k.invariant
