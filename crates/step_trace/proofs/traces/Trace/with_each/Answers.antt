use Rattle.std.proofs.Common.{◌≡◌, ◌∙◌, length, inl, inr, arith}
use Rattle.std.proofs.lemmas.Result.{err_from_is_err_and}
use Rattle.step_trace.proofs.AppendedSteps.{appended-none, appended-next, appended-refused, reached-first, reached-next}
use Rattle.step_trace.proofs.traces.Trace.with_each.Goals as goal

pub loop-tick-preserved : goal.loop-tick-preserved
loop-tick-preserved c =
    let next = c.in-Some.ensures.steps in
    let before = rw (next.0.0, next.1.0) at c.loop-tick.invariant in
    let xs = c.next.new.self.b.rest.items in
    let ts = c.next.new.self.a.rest.items in
    record {
      leads = before.leads ∙ rw c.in_ok-push_next.ensures.appended
          (appended-next c.loop-tick.trace c.in-Some.step xs c.in-Some.tick ts c.in_ok-push_next.ensures.fits);
      each = let b = before.each in omega (arith, b);
      later = λ m h. before.later m (reached-next c.loop-tick.trace c.in-Some.step xs c.in-Some.tick ts m
          c.in_ok-push_next.ensures.fits (rw c.in_ok-push_next.ensures.appended at h));
    }

pub returns-in_err-push_next-clause-refused : goal.returns-in_err-push_next-clause-refused
returns-in_err-push_next-clause-refused c =
    let next = c.in-Some.ensures.steps in
    let p = err_from_is_err_and c.from_residual.result c.from_residual.ensures.1 in
    rw (p.1, p.2, c.loop-tick.invariant.leads, next.0.0, next.1.0)
    (appended-refused c.loop-tick.trace c.in-Some.step c.next.new.self.b.rest.items c.in-Some.tick
    c.next.new.self.a.rest.items _ c.in_err-push_next.ensures.refused)

pub returns-in_err-push_next-clause-reached : goal.returns-in_err-push_next-clause-reached
returns-in_err-push_next-clause-reached c =
    let next = c.in-Some.ensures.steps in
    let p = err_from_is_err_and c.from_residual.result c.from_residual.ensures.1 in
    let before = rw (next.0.0, next.1.0) at c.loop-tick.invariant in
    rw (p.1, p.2, c.in_err-push_next.ensures.no)
    (before.later _ (reached-first c.loop-tick.trace _ _ (omega arith) before.each))

pub returns-clause-appended : goal.returns-clause-appended
returns-clause-appended c =
    let d = c.loop-tick.invariant in
    let same = d.each in
    let a = c.loop-tick.tick-iterator.a.rest.ok in
    let b = c.loop-tick.tick-iterator.b.rest.ok in
    let none : length c.loop-tick.tick-iterator.b.rest.items ≡ 0 = elim c.in-None.ensures.steps [
      | inl h ↦ (let e = h.1.0 in omega (arith, e, a, b, same))
      | inr h ↦ (let e = h.1.0 in omega (arith, e, b))
    ] in
    d.leads ∙ appended-none c.loop-tick.trace c.loop-tick.tick-iterator.b.rest.items c.loop-tick.tick-iterator.a.rest.items none
