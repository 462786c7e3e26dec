use Rattle.std.proofs.Common.{◌≡◌, ◌<◌, ◌∙◌, length, ap, sym, subst, drop, arith, length-append}
use Rattle.std.proofs.lemmas.Result.{err_from_is_err_and}
use Rattle.step_trace.specs.declared.paged_lists.TheConstants.{PAGE_LEN}
use Rattle.step_trace.specs.Traces.{Recorded}
use Rattle.step_trace.specs.Ticks.{IsTrace}
use Rattle.step_trace.specs.DeliveryIndex.{IsIndex}
use Rattle.step_trace.specs.PlacedSteps.{Ticked}
use Rattle.step_trace.specs.AppendedSteps.{IsReached}
use Rattle.step_trace.specs.UncheckedSteps.{front_of, rest_of}
use Rattle.step_trace.proofs.AppendedSteps.{reached-first}
use Rattle.step_trace.proofs.UncheckedSteps.{left-begin, rest-begin, rest-end}
use Rattle.step_trace.proofs.traces.Trace.with_page.Goals as goal

pub returns-in_default-clause-reached : goal.returns-in_default-clause-reached
returns-in_default-clause-reached c =
    let before = c.self.inside in
    let page = c.page.inside in
    let count : c.len.result ≡ length before.placed.steps =
    (let l = c.len.ensures in let ok = before.taken.ok in let long = c.self.invariant.1.long in omega (arith, l, ok, long)) in
    let full : length page.steps.items ≡ PAGE_LEN =
    subst (λ (p : Ticked). length p.steps ≡ PAGE_LEN) (sym c.page.view_is) c.requires.full in
    let some : 0 < length page.steps.items = omega (arith, full) in
    rw (← c.self.view_is, ← c.page.view_is, count)
    (reached-first (record { config = before.config; steps = before.placed.steps; ticks = before.placed.ticks; last = before.last })
    page.steps.items page.ticks.items some c.page.invariant)

pub check_all-requires : goal.check_all-requires
check_all-requires c =
    let before = c.self.inside in
    let page = c.page.inside in
    let n = length before.taken.items in
    let placed = rw c.deref.ensures.value at c.in-Ok.ensures in
    let each = c.self.invariant.0.time.each in
    let both = left-begin (λ u xs ts. IsTrace u × IsIndex u.steps before.taken.items)
    (record { config = before.config; steps = before.placed.steps; ticks = before.placed.ticks; last = before.last })
    page.steps.items page.ticks.items n c.self.invariant.1.long each (c.self.invariant.0, c.self.invariant.1) in
    let fits = subst (λ (p : Ticked). IsTrace (front_of before.config p n before.last)
    × IsIndex (front_of before.config p n before.last).steps before.taken.items) (sym placed) both in
    let long = c.self.invariant.1.long in
    let steps = ap (λ p. length p.steps) placed in
    let ticks = ap (λ p. length p.ticks) placed in
    let paired = c.page.invariant in
    record {
      sound = record {
        trace = fits.0;
        index = fits.1;
        inside = omega (arith, long, steps, length-append before.placed.steps page.steps.items);
        each = omega (
          arith,
          each,
          steps,
          ticks,
          paired,
          length-append before.placed.steps page.steps.items,
          length-append before.placed.ticks page.ticks.items,
        );
      };
    }

pub returns-in_err-check_all-clause-reached : goal.returns-in_err-check_all-clause-reached
returns-in_err-check_all-clause-reached c =
    let before = c.self.inside in
    let page = c.page.inside in
    let n = length before.taken.items in
    let placed = rw c.deref.ensures.value at c.in-Ok.ensures in
    let t : Recorded = record { config = before.config; steps = before.placed.steps; ticks = before.placed.ticks; last = before.last } in
    let e = c.in_err-check_all.field-0.0 in
    let p = err_from_is_err_and c.from_residual.result c.from_residual.ensures.1 in
    let left = subst (λ (a : Ticked). IsReached (front_of before.config a n before.last) (drop n a.steps) (drop n a.ticks) e.no)
    placed c.in_err-check_all.ensures.reached in
    rw (p.1, p.2, ← c.self.view_is, ← c.page.view_is)
    (left-begin (λ u xs ts. IsReached u xs ts e.no → IsReached t page.steps.items page.ticks.items e.no)
    t page.steps.items page.ticks.items n c.self.invariant.1.long c.self.invariant.0.time.each (λ h. h) left)

pub returns-clause-appended : goal.returns-clause-appended
returns-clause-appended c =
    let checked = c.in_ok-check_all.ensures in
    let before = c.self.inside in
    let placed = rw c.deref.ensures.value at c.in-Ok.ensures in
    let begins =
    rest-begin (record { config = before.config; steps = before.placed.steps; ticks = before.placed.ticks; last = before.last })
    c.page.inside.steps.items c.page.inside.ticks.items (length before.taken.items) c.self.invariant.1.long c.self.invariant.0.time.each in
    let after = c.check_all.new.self in
    let all = checked.all ∙ ap (λ p. length p.steps) (sym checked.placed) in
    rw (← c.self.view_is, ← c.page.view_is)
    (sym begins ∙ ap (λ p. rest_of before.config p (length before.taken.items) before.last) (sym placed) ∙ sym checked.leads
    ∙ rest-end after.config after.placed (length after.taken.items) after.last all checked.sound.each)
