use Rattle.std.proofs.Common.{length, arith, ap}
use Rattle.std.proofs.lemmas.Grind.{common_steps}
use Rattle.step_trace.specs.Pages.{page_items}
use Rattle.step_trace.proofs.PagePlaces.{length-all}
use Rattle.step_trace.proofs.paged_lists.PagedList.push.Goals as goal

pub invariant_of-self-then-len-lt-PAGE_LEN : goal.invariant_of-self-then-len-lt-PAGE_LEN
invariant_of-self-then-len-lt-PAGE_LEN g c =
    let whole = length-all (λ p. page_items p) c.self.inside.pages.items c.self.inside.last.items c.self.invariant.full in
    let view = ap (λ xs. length xs) c.self.view_is in
    let room = c.requires in
    let b = c.self.inside.last.ok in
    let less = c.if-len-lt-PAGE_LEN.true in let len = c.len.ensures in
    let kept = c.make_room.new.last.ok in let same = ap (λ xs. length xs) c.make_room.ensures.last in
    rw (c.push_reserved.ensures.items, c.make_room.ensures.last, c.make_room.ensures.pages) (record {
      full = c.self.invariant.full;
      less = grind (arith, common_steps);
      limit = grind (arith, common_steps);
    })
