use Rattle.judged_runs.proofs.MeasuredFactors.{glanced, old_times}
use Rattle.judged_runs.proofs.factors.measure_at.Goals as goal

pub glance_at-requires-clause-old : goal.glance_at-requires-clause-old
glance_at-requires-clause-old c =
    let trace = c.args.analyst.now.seen in
    let ahead = c.args.so_far.ahead in
    old_times c.args.analyst.now.set trace trace.config c.args.start c.args.formula.now
    c.in_ok-times.times c.args.so_far.factor ahead.tick ahead.after ahead.old c.in_ok-times.ensures c.requires.reached.ahead.old

-- the last ticks are enough
pub returns-then-so_far-ahead-clause-measured : goal.returns-then-so_far-ahead-clause-measured
returns-then-so_far-ahead-clause-measured c =
    let trace = c.args.analyst.now.seen in (
      c.if-so_far-ahead.true,
      record {
        needed = c.requires.reached.needed;
        ahead = glanced c.args.analyst.now.set trace c.args.decisions.now
            c.args.start c.args.formula.now c.in_ok-times.times c.args.so_far.factor c.args.so_far.ahead.tick c.in_ok-ahead.ahead
            c.in_ok-times.ensures c.requires.reached.ahead.before c.in_ok-ahead.ensures.glance;
      },
    )
