use Rattle.std.proofs.Common.{◌<◌, ◌⊎◌, inl, inr, arith}
use Rattle.step_trace.specs.declared.rows.Row.{Row}
use Rattle.certificate_checker.proofs.RowSearches.{no_row, two_rows_found, two_rows_passed, two_rows_none, two_rows_first}
use Rattle.certificate_checker.proofs.row_order.first_above.Goals as goal
use Rattle.certificate_checker.proofs.row_order.first_above.Goals.{then-rows-k-via-then-rows-k, then-rows-k-via-else-rows-k+then-rows-k-2}

-- a bound is above the one before
abbrev Above : Row → Row → Type 0
Above b r = (b.delta < r.delta) ⊎ (b.phi < r.phi)

pub loop-k-init : goal.loop-k-init
loop-k-init c = two_rows_first Above c.args.rows.now

pub returns-then-rows-k : goal.returns-then-rows-k
returns-then-rows-k c = two_rows_found Above c.args.rows.now c.loop-k.k no_row c.loop-k.auto.k c.loop-k-test.true
    (elim c.then-rows-k.branch [
      | then-rows-k-via-then-rows-k w ↦ inl w.if-rows-k.true
      | then-rows-k-via-else-rows-k+then-rows-k-2 w ↦ inr w.if-rows-k-2.true
    ]) c.loop-k.invariant

pub loop-k-preserved : goal.loop-k-preserved
loop-k-preserved c = two_rows_passed Above c.args.rows.now c.loop-k.k no_row c.loop-k.auto.k
    (λ l. let n = c.if-rows-k.false in let m = c.if-rows-k-2.false in
    elim l [ inl h ↦ omega (arith, n, h) | inr h ↦ omega (arith, m, h) ]) c.loop-k.invariant

pub returns : goal.returns
returns c = two_rows_none Above c.args.rows.now c.loop-k.k c.loop-k-test.false c.loop-k.invariant
