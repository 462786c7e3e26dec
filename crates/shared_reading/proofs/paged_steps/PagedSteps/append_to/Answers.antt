use Rattle.std.proofs.Common.{◌≡◌, sym, subst, Result, Ok}
use Rattle.std.specs.Prelude.{IfOk, IfErr}
use Rattle.std.proofs.lemmas.Result.{err_from_is_err_and}
use Rattle.step_trace.specs.declared.loose_steps.StepRefused.{StepRefused}
use Rattle.step_trace.specs.Traces.{Recorded}
use Rattle.step_trace.specs.PlacedSteps.{Ticked}
use Rattle.step_trace.specs.AppendedSteps.{appended, IsStepRefusal}
use Rattle.shared_reading.specs.PagedSteps.{steps_of, ticks_of}
use Rattle.shared_reading.proofs.PagedSteps.{appended-ok, appended-err, paired-all}
use Rattle.shared_reading.proofs.paged_steps.PagedSteps.append_to.Goals as goal

pub returns-in_err-append_pages-clause-refused : goal.returns-in_err-append_pages-clause-refused
returns-in_err-append_pages-clause-refused c =
    let s = c.self.inside in
    let p = err_from_is_err_and c.from_residual.result c.from_residual.ensures.1 in
    rw (p.1, p.2)
    (subst (λ (a : Ticked). IsStepRefusal (appended c.args.trace a.steps a.ticks) c.in_err-append_pages.field-0.0) c.self.view_is
    (appended-err c.args.trace (steps_of s.full.items) s.last.steps
    (ticks_of s.full.items) s.last.ticks c.in_err-append_pages.field-0.0 (paired-all s.full.items c.self.invariant.each)
    c.in_err-append_pages.ensures.refused))

pub returns-clause-appended : goal.returns-clause-appended
returns-clause-appended c =
    let s = c.self.inside in
    let u = c.in_ok-append_pages.field-0 in
    let rest : appended c.args.trace c.args.self.steps c.args.self.ticks ≡ appended u s.last.steps s.last.ticks =
    subst (λ (a : Ticked). appended c.args.trace a.steps a.ticks ≡ appended u s.last.steps s.last.ticks) c.self.view_is
    (appended-ok c.args.trace u (steps_of s.full.items) s.last.steps
    (ticks_of s.full.items) s.last.ticks (paired-all s.full.items c.self.invariant.each) c.in_ok-append_pages.ensures.appended) in
    subst (λ (r : Result Recorded StepRefused). IfOk c.with_steps.result (λ longer. r ≡ Ok longer)) (sym rest) c.with_steps.ensures.appended

pub returns-clause-refused : goal.returns-clause-refused
returns-clause-refused c =
    let s = c.self.inside in
    let u = c.in_ok-append_pages.field-0 in
    let rest : appended c.args.trace c.args.self.steps c.args.self.ticks ≡ appended u s.last.steps s.last.ticks =
    subst (λ (a : Ticked). appended c.args.trace a.steps a.ticks ≡ appended u s.last.steps s.last.ticks) c.self.view_is
    (appended-ok c.args.trace u (steps_of s.full.items) s.last.steps
    (ticks_of s.full.items) s.last.ticks (paired-all s.full.items c.self.invariant.each) c.in_ok-append_pages.ensures.appended) in
    subst (λ (r : Result Recorded StepRefused). IfErr c.with_steps.result (IsStepRefusal r)) (sym rest) c.with_steps.ensures.refused
