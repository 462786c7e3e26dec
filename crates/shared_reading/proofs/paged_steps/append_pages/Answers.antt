use Rattle.std.proofs.Common.{rules, ◌≡◌, ◌∷◌, ◌∙◌, sym, refl, subst, Ok}
use Rattle.std.specs.Prelude.{All}
use Rattle.std.proofs.lemmas.List.Elements.{All-tail, All-head}
use Rattle.std.proofs.lemmas.Result.{err_from_is_err_and}
use Rattle.step_trace.specs.AppendedSteps.{appended, IsStepRefusal}
use Rattle.shared_reading.specs.PagedSteps.{IsPaired, steps_of, ticks_of}
use Rattle.shared_reading.proofs.PagedSteps.{appended-ok, appended-err, none-left}
use Rattle.shared_reading.proofs.paged_steps.append_pages.Goals as goal

pub loop-page-init : goal.loop-page-init
loop-page-init c =
    let e : c.into_iter-page-iterator.result.rest.items ≡ c.args.pages.items = search rules in
    record { same = rw e refl; paired = subst (All IsPaired) (sym e) c.requires }

pub loop-page-preserved : goal.loop-page-preserved
loop-page-preserved c =
    let e : c.loop-page.page-iterator.rest.items ≡ c.in-Some.page ∷ c.next.new.self.rest.items = search rules in
    let was = c.loop-page.invariant in
    let paired = subst (All IsPaired) e was.paired in
    let taken : appended c.loop-page.trace c.in-Some.page.steps c.in-Some.page.ticks
    ≡ Ok c.in_ok-trace.trace = c.in_ok-trace.ensures.appended in
    let rest = c.next.new.self.rest.items in
    record {
      same = was.same ∙ rw e (appended-ok c.loop-page.trace c.in_ok-trace.trace c.in-Some.page.steps
          (steps_of rest) c.in-Some.page.ticks (ticks_of rest) (All-head IsPaired c.in-Some.page rest paired) taken);
      paired = All-tail IsPaired c.in-Some.page rest paired;
    }

pub returns-in_err-trace-clause-refused : goal.returns-in_err-trace-clause-refused
returns-in_err-trace-clause-refused c =
    let e : c.loop-page.page-iterator.rest.items ≡ c.in-Some.page ∷ c.next.new.self.rest.items = search rules in
    let p = err_from_is_err_and c.from_residual.result c.from_residual.ensures.1 in
    let was = c.loop-page.invariant in
    let paired = subst (All IsPaired) e was.paired in
    let refused : IsStepRefusal (appended c.loop-page.trace c.in-Some.page.steps c.in-Some.page.ticks) c.in_err-trace.field-0.0 =
    c.in_err-trace.ensures.refused in
    let rest = c.next.new.self.rest.items in
    rw (p.1, p.2, was.same, e)
    (appended-err c.loop-page.trace c.in-Some.page.steps
    (steps_of rest) c.in-Some.page.ticks (ticks_of rest) _ (All-head IsPaired c.in-Some.page rest paired) refused)

pub returns-clause-appended : goal.returns-clause-appended
returns-clause-appended c = c.loop-page.invariant.same ∙ none-left c.loop-page.trace c.loop-page.page-iterator.rest.items (search rules)
