use Rattle.std.proofs.Common.{sym}
use Rattle.decision_claims.proofs.FrontClaims.{deadline-monotone, KeepsClaim-rows}
use Rattle.judged_runs.proofs.KeptClaims.{IfOk-weaker, late_in_whole}
use Rattle.judged_runs.proofs.judgements.late_by.Goals as goal

pub returns-then-demands-clause-late : goal.returns-then-demands-clause-late
returns-then-demands-clause-late c =
    rw c.if-demands.true
    (late_in_whole c.args.set c.args.trace.now c.last_tick-end.result c.args.rows.now c.args.decisions.now _
    c.first_late.result c.requires.report (sym c.last_tick-end.ensures.value) c.first_late.ensures.late)

pub returns-then-demands-clause-kept : goal.returns-then-demands-clause-kept
returns-then-demands-clause-kept c = λ none. rw c.if-demands.true
    ((c.first_late.ensures.claim c.args.trace.now (sym c.last_tick-end.ensures.value) c.requires.report).0 none)

pub returns-then-demands-clause-rows : goal.returns-then-demands-clause-rows
returns-then-demands-clause-rows c = λ none. ((KeepsClaim-rows c.args.set c.args.trace.now c.args.rows.now c.args.decisions.now _
    (deadline-monotone c.args.trace.now.config c.args.demands.start c.args.formula.now) c.requires.report).0
    ((c.first_late.ensures.claim c.args.trace.now (sym c.last_tick-end.ensures.value) c.requires.report).0 none))

pub returns-else-demands-clause-late : goal.returns-else-demands-clause-late
returns-else-demands-clause-late c = rw c.if-demands.false c.first_late_in_time.ensures.late

pub returns-else-demands-clause-kept : goal.returns-else-demands-clause-kept
returns-else-demands-clause-kept c = rw c.if-demands.false
    (IfOk-weaker _ _ c.first_late_in_time.result (λ found k. k.0) c.first_late_in_time.ensures.kept)

pub returns-else-demands-clause-rows : goal.returns-else-demands-clause-rows
returns-else-demands-clause-rows c = IfOk-weaker _ _ c.first_late_in_time.result
    (λ found whole none.
    (KeepsClaim-rows c.args.set c.args.trace.now c.args.rows.now c.args.decisions.now _
    (deadline-monotone c.args.trace.now.config c.args.demands.start c.args.formula.now)
    c.requires.report).0 (whole none))
    c.first_late_in_time.ensures.whole
