use Rattle.std.proofs.Common.{subst}
use Rattle.std.proofs.lemmas.Result.{err_from_is_err_and}
use Rattle.log_windows.proofs.PartsTaken.{front-refused, front-taken}
use Rattle.log_windows.specs.Places.{EndsNone}
use Rattle.log_windows.proofs.SeamPlaces.{some-end}
use Rattle.log_windows.proofs.devices.take_front.Goals as goal

-- the line feed is whole, and so something is
pub returns-then-cut-eq0 : goal.returns-then-cut-eq0
returns-then-cut-eq0 g c = λ bytes e.
    let rest = c.args.rest.now.items in
    absurd
    (some-end bytes rest e (subst (λ n. EndsNone rest n) c.if-cut-eq0.true (rw c.deref.ensures.value at c.seam_len-cut.ensures.last)))

pub returns-in_err-take_rows : goal.returns-in_err-take_rows
returns-in_err-take_rows g c =
    let p = err_from_is_err_and c.from_residual.result c.from_residual.ensures.1 in
    λ bytes e. rw (p.1, p.2)
    (front-refused g.T.TakeRows.next c.args.taker.now bytes c.args.rest.now.items c.seam_len-cut.result _ e c.if-cut-eq0.false
    (rw c.deref.ensures.value at c.seam_len-cut.ensures.closed) (rw c.deref-2.ensures.value at c.in_err-take_rows.ensures))

pub returns : goal.returns
returns g c = λ bytes e. front-taken g.T.TakeRows.next c.args.taker.now
    c.take_rows.new.taker bytes c.args.rest.now.items c.remove_after_first.new.bytes.items c.seam_len-cut.result e c.if-cut-eq0.false
    (rw c.deref.ensures.value at c.seam_len-cut.ensures.within)
    (rw c.deref.ensures.value at c.seam_len-cut.ensures.closed) (rw c.deref.ensures.value at c.seam_len-cut.ensures.last)
    (rw c.deref-2.ensures.value at c.in_ok-take_rows.ensures) c.remove_after_first.ensures
