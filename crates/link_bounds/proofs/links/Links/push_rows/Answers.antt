use Rattle.std.proofs.Common.{◌+◌, ◌<◌, ◌∙◌, None, length, sym, arith}
use Rattle.std.proofs.lemmas.List.{get_or_read}
use Rattle.link_bounds.specs.declared.links.TheConstants.{RECEIVERS}
use Rattle.link_bounds.proofs.ListedRows.{ListsBefore-link, ListsBefore-no_link}
use Rattle.link_bounds.proofs.RowLists.{AreRows-from_lists}
use Rattle.link_bounds.proofs.links.Links.push_rows.Goals as goal
use Rattle.link_bounds.proofs.links.Links.push_rows.Goals.{in-Some+in_ok-push, in_default}

pub loop-place-preserved : goal.loop-place-preserved
loop-place-preserved c = λ members t at time within known old.
    let bounds = c.args.self.now.bounds.items in
    let place = c.loop-place.place in
    let inside : place < length bounds = omega (arith, c.loop-place-test.true, c.len-place-end.ensures, c.args.self.now.bounds.ok.0) in
    let lists = c.loop-place.invariant members t at time within known old in
    let read = get_or_read bounds place c.index.result.now inside c.index.ensures None in
    elim c.match-index.branch [
      | in-Some+in_ok-push w ↦ rw (w.rows-is, w.in_ok-push.ensures.items, w.row_at.ensures) (ListsBefore-link members
          t time at place c.args.self.now c.loop-place.rows.items known inside lists w.in-Some.bound (sym read ∙ w.in-Some.is))
      | in_default w ↦ rw w.rows-is (ListsBefore-no_link members t time at place c.args.self.now c.loop-place.rows.items known inside lists
          (sym read ∙ w.in_default.is))
    ]

pub returns : goal.returns
returns c = λ members t at time within known old.
    let long = known.known.long in
    let lists = c.loop-place.invariant members t at time within known old in
    AreRows-from_lists members t at (RECEIVERS + c.loop-place.place) c.loop-place.rows.items within
    (omega (arith, c.loop-place-test.false, c.len-place-end.ensures, c.args.self.now.bounds.ok.0)) lists
