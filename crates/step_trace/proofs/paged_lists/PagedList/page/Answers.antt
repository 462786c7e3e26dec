use Rattle.std.proofs.Common.{sym}
use Rattle.step_trace.specs.Pages.{page_items}
use Rattle.step_trace.proofs.PagePlaces.{is_page}
use Rattle.step_trace.proofs.paged_lists.PagedList.page.Goals as goal

pub returns-in-Some : goal.returns-in-Some
returns-in-Some g c =
    let page = sym (rw c.deref.ensures.value at c.in-Some.ensures) in
    rw (c.as_slice.ensures.value, c.deref-in-Some.ensures, ← c.self.view_is)
    (is_page (λ p. page_items p) c.self.inside.pages.items c.self.inside.last.items c.self.invariant c.args.q c.in-Some.page.now page)
