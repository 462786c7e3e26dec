use Rattle.std.proofs.Common.{◌/◌, arith}
use Rattle.event_log.proofs.TickRows.{tens-few, tens-some, width-five, width-one, width-two}
use Rattle.event_log.proofs.tick_rows.tick_width.Goals as goal

pub overflow_mul-result : goal.overflow_mul-result
overflow_mul-result c = let few = tens-few c.args.k c.requires in let e = c.pow-power.ensures in record { fits = omega (arith, e, few) }

pub overflow_mul-result-2 : goal.overflow_mul-result-2
overflow_mul-result-2 c = let few = tens-few c.args.k c.requires in let e = c.pow-power.ensures in record { fits = omega (arith, e, few) }

pub returns-then-k-eq0-clause-is : goal.returns-then-k-eq0-clause-is
returns-then-k-eq0-clause-is c = width-one c.args.k c.pow-power.result c.if-k-eq0.true c.pow-power.ensures

pub returns-then-k-eq0-clause-above : goal.returns-then-k-eq0-clause-above
returns-then-k-eq0-clause-above c = let some = tens-some (c.args.k / 3) in let e = c.pow-power.ensures in omega (arith, e, some)

pub returns-then-k-eq1-clause-is : goal.returns-then-k-eq1-clause-is
returns-then-k-eq1-clause-is c = width-two c.args.k c.pow-power.result c.if-k-eq1.true c.pow-power.ensures

pub returns-then-k-eq1-clause-above : goal.returns-then-k-eq1-clause-above
returns-then-k-eq1-clause-above c = let some = tens-some (c.args.k / 3) in let e = c.pow-power.ensures in omega (arith, e, some)

pub returns-clause-is : goal.returns-clause-is
returns-clause-is c = width-five c.args.k c.pow-power.result c.if-k-eq0.false c.if-k-eq1.false c.pow-power.ensures

pub returns-clause-above : goal.returns-clause-above
returns-clause-above c = let some = tens-some (c.args.k / 3) in let e = c.pow-power.ensures in omega (arith, e, some)
