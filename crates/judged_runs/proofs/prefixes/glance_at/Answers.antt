use Rattle.std.proofs.Common.{arith}
use Rattle.decision_claims.specs.Formulas.{deadline}
use Rattle.decision_claims.proofs.FrontClaims.{deadline-monotone}
use Rattle.decision_claims.proofs.PrefixClaims.{has_cut}
use Rattle.judged_runs.proofs.EarlierPrefixes.{glance_here, none_in_sight, old_in_sight}
use Rattle.judged_runs.proofs.prefixes.glance_at.Goals as goal

pub returns-then-x-ahead-clause-glance : goal.returns-then-x-ahead-clause-glance
returns-then-x-ahead-clause-glance c = glance_here _ _ _ c.args.ahead c.requires.order c.requires.old

pub returns-then-tick-x-clause-glance : goal.returns-then-tick-x-clause-glance
returns-then-tick-x-clause-glance c = glance_here _ _ _ c.args.ahead c.requires.order c.requires.old

pub before_deadlines-of_rows-requires : goal.before_deadlines-of_rows-requires
before_deadlines-of_rows-requires c =
    let found = c.in_ok-rows.ensures in
    let d = has_cut c.args.analyst.now.seen c.args.ahead.tick found.sound c.requires.inside in
    rw c.deref.ensures.value (found.rows d.cut d.sound d.at).falling

pub aged-requires : goal.aged-requires
aged-requires c =
    let found = c.in_ok-rows.ensures in
    let d = has_cut c.args.analyst.now.seen c.args.ahead.tick found.sound c.requires.inside in
    record { falling = rw c.deref-2.ensures.value (found.rows d.cut d.sound d.at).falling }

pub returns-clause-glance : goal.returns-clause-glance
returns-clause-glance c =
    let set = c.args.analyst.now.set in
    let trace = c.args.analyst.now.seen in
    let ahead = c.args.ahead in
    let found = c.in_ok-rows.ensures in
    let d = has_cut trace ahead.tick found.sound c.requires.inside in
    let rows = c.in_ok-rows.rows.items in
    let last = found.rows d.cut d.sound d.at in
    let due = deadline trace.config c.args.start c.args.formula.now in
    let monotone = deadline-monotone trace.config c.args.start c.args.formula.now in
    let next = c.aged.result in
    let inner = c.lesser.ensures in
    let outer = c.lesser-tick.ensures in
    let tick = c.aged.ensures.tick in
    let later = c.if-tick-x.false in
    let given = c.requires.order in
    let order = c.aged.ensures.order in
    record {
      none = none_in_sight set trace d.cut rows due ahead.tick
          ahead.after ahead.old c.before_deadlines-of_rows.result c.others_deadline-of_others.result next.tick monotone d.sound d.at last
          (rw (c.deref.ensures.value, c.trace-trace.ensures, found.same) at c.before_deadlines-of_rows.ensures.rows)
          (rw (c.trace-trace.ensures, found.same) at c.others_deadline-of_others.ensures.early) c.requires.old
          (omega (arith, inner, outer, tick)) (omega (arith, inner, outer, tick)) (omega (arith, inner, outer, tick));
      order = omega (arith, order, given, later, tick);
      old = old_in_sight set trace d.cut rows due ahead.tick next.tick ahead.after ahead.old next.after next.old monotone d.sound d.at last
          (rw (c.deref-2.ensures.value, c.trace-trace.ensures, found.same) at c.aged.ensures.rows)
          (omega (arith, order, given)) (omega (arith, later, tick)) c.aged.ensures.old c.requires.old;
    }
