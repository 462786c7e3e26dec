use Rattle.std.proofs.Common.{◌≡◌, ◌++◌, ◌∙◌, length, ap, sym, arith}
use Rattle.step_trace.specs.declared.paged_lists.TheConstants.{PAGE_LEN}
use Rattle.step_trace.specs.Pages.{page_items, all_items}
use Rattle.step_trace.proofs.PagePlaces.{none-at_end, all-with_page, AreInPages-page}
use Rattle.step_trace.proofs.paged_lists.PagedList.push_page.Goals as goal

pub invariant_of-self-in-Ok : goal.invariant_of-self-in-Ok
invariant_of-self-in-Ok g c =
    let none = none-at_end (λ p. page_items p) c.self.inside.pages.items c.self.inside.last.items c.self.invariant
    (rw (← c.self.view_is) at c.requires.ends) in
    let room = rw (← c.self.view_is, none) at c.requires.room in
    let before = rw none at c.self.invariant in
    let long : length c.args.page.items ≡ PAGE_LEN = (let full = c.requires.full in let ok = c.args.page.ok in omega (arith, full, ok)) in
    rw (c.push_reserved.ensures.items, c.in_ok-reserve.ensures.items, none)
    (AreInPages-page (λ p. page_items p) c.self.inside.pages.items c.in-Ok.full before
    (ap (λ page. length page.items) c.in-Ok.ensures.ok ∙ long) room)

pub returns-in-Ok-clause-ok : goal.returns-in-Ok-clause-ok
returns-in-Ok-clause-ok g c =
    let none = none-at_end (λ p. page_items p) c.self.inside.pages.items c.self.inside.last.items c.self.invariant
    (rw (← c.self.view_is) at c.requires.ends) in
    let before = ap (λ xs. all_items (λ p. page_items p) c.self.inside.pages.items xs) (sym none) ∙ c.self.view_is in
    rw (c.push_reserved.ensures.items, c.in_ok-reserve.ensures.items, none)
    (all-with_page (λ p. page_items p) c.self.inside.pages.items c.in-Ok.full
    ∙ ap (λ xs. xs ++ page_items c.in-Ok.full) before ∙ ap (λ page. c.args.self.now ++ page.items) c.in-Ok.ensures.ok)
