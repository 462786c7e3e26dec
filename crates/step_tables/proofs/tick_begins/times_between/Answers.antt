use Rattle.std.proofs.Common.{◌≡◌, ◌-◌, ◌/◌, Some, arith}
use Rattle.step_tables.proofs.TickLengths.{between-first, between-order, between-width}
use Rattle.step_tables.proofs.tick_begins.times_between.Goals as goal

pub returns-then-end-begin-clause-only : goal.returns-then-end-begin-clause-only
returns-then-end-begin-clause-only c = λ t positive b e order.
    let later = between-order t.first t.width c.args.before c.args.later c.args.begin c.args.end positive b e order in
    absurd (omega (arith, later, c.if-end-begin.true))

pub returns-then-width-eq0-clause-only : goal.returns-then-width-eq0-clause-only
returns-then-width-eq0-clause-only c = λ t positive b e order.
    let same = between-width t.first t.width c.args.before c.args.later c.args.begin c.args.end b e order in
    absurd (omega (arith, positive, same, c.if-width-eq0.true))

pub returns-then-begin-passed-clause-only : goal.returns-then-begin-passed-clause-only
returns-then-begin-passed-clause-only c = λ t positive b e order.
    let same = between-width t.first t.width c.args.before c.args.later c.args.begin c.args.end b e order in
    let first = between-first t.first t.width c.args.before c.args.begin
    ((c.args.end - c.args.begin) / (c.args.later - c.args.before)) c.ranges.begin.fits b same in
    absurd (omega (arith, first.0, c.saturating_mul-passed.ensures, c.if-begin-passed.true))

pub returns-clause-only : goal.returns-clause-only
returns-clause-only c = λ t positive b e order.
    let same = between-width t.first t.width c.args.before c.args.later c.args.begin c.args.end b e order in
    let first = between-first t.first t.width c.args.before c.args.begin
    ((c.args.end - c.args.begin) / (c.args.later - c.args.before)) c.ranges.begin.fits b same in
    let begins : c.args.begin - c.saturating_mul-passed.result ≡ t.first = rw c.saturating_mul-passed.ensures (first.1) in
    λ i. Some (record { first = begins i; width = same i })
