use Rattle.std.proofs.Common.{◌<◌, arith}
use Rattle.certificate_checker.proofs.RowSearches.{no_row, row_found, row_passed, row_none, row_first}
use Rattle.certificate_checker.proofs.row_order.first_beyond.Goals as goal

pub loop-k-init : goal.loop-k-init
loop-k-init c = row_first (λ j r. c.args.last < r.gst) c.args.rows.now

pub returns-then-last-rows : goal.returns-then-last-rows
returns-then-last-rows c =
    row_found (λ j r. c.args.last < r.gst) c.args.rows.now c.loop-k.k no_row c.loop-k-test.true c.if-last-rows.true c.loop-k.invariant

pub loop-k-preserved : goal.loop-k-preserved
loop-k-preserved c = row_passed (λ j r. c.args.last < r.gst) c.args.rows.now c.loop-k.k no_row
    (λ l. let n = c.if-last-rows.false in omega (arith, n, l)) c.loop-k.invariant

pub returns : goal.returns
returns c = row_none (λ j r. c.args.last < r.gst) c.args.rows.now c.loop-k.k c.loop-k-test.false c.loop-k.invariant
