use Rattle.decision_claims.specs.Formulas.{deadline}
use Rattle.judged_runs.proofs.EarlierPrefixes.{before_sight}
use Rattle.judged_runs.proofs.prefixes.look_at.Goals as goal

-- the last ticks are enough
pub returns-then-ahead-next-clause-look : goal.returns-then-ahead-next-clause-look
returns-then-ahead-next-clause-look c =
    let trace = c.args.analyst.now.seen in
    let glance = c.in_ok-next.ensures.glance in (
      c.if-ahead-next.true,
      record {
        before = before_sight c.args.analyst.now.set trace c.args.decisions.now (deadline trace.config c.args.start c.args.formula.now)
            c.args.ahead.tick c.in_ok-next.next.tick glance.none c.requires.ahead.before;
        order = glance.order;
        old = glance.old;
      },
    )
