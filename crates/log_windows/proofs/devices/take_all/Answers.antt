use Rattle.std.proofs.Common.{arith}
use Rattle.std.proofs.lemmas.Result.{err_from_is_err_and}
use Rattle.log_windows.proofs.PartsTaken.{end-refused, ended, opened}
use Rattle.log_windows.proofs.devices.take_all.Goals as goal

pub returns-in_err-take_parts-clause-refused : goal.returns-in_err-take_parts-clause-refused
returns-in_err-take_parts-clause-refused g c =
    let p = err_from_is_err_and c.from_residual-in_err-take_parts.result c.from_residual-in_err-take_parts.ensures.1 in
    let long = c.in_ok-fill.ensures.full c.if-branch.false in
    let begins = opened g.T.TakeRows.next c.args.taker.now _ _ _ _ _ c.requires.none c.in_ok-fill.ensures.bytes
    (omega (arith, long)) c.remove_mark.ensures in
    rw (p.1, p.2) (c.in_err-take_parts.ensures.goes_on c.args.taker.now _ begins)

pub returns-in_err-take_rows-2-clause-refused : goal.returns-in_err-take_rows-2-clause-refused
returns-in_err-take_rows-2-clause-refused g c =
    let p = err_from_is_err_and c.from_residual-in_err-take_rows-2.result c.from_residual-in_err-take_rows-2.ensures.1 in
    let long = c.in_ok-fill.ensures.full c.if-branch.false in
    let begins = opened g.T.TakeRows.next c.args.taker.now _ _ _ _ _ c.requires.none c.in_ok-fill.ensures.bytes
    (omega (arith, long)) c.remove_mark.ensures in
    let read = c.in_ok-take_parts.ensures.goes_on c.args.taker.now _ begins in
    rw (p.1, p.2) (end-refused g.T.TakeRows.next c.args.taker.now _ _ _ _ _ c.in_ok-take_parts.ensures.end
    (rw c.deref-2.ensures.value at c.in_err-take_rows-2.ensures) read)

pub returns-clause-read : goal.returns-clause-read
returns-clause-read g c =
    let long = c.in_ok-fill.ensures.full c.if-branch.false in
    let begins = opened g.T.TakeRows.next c.args.taker.now _ _ _ _ _ c.requires.none c.in_ok-fill.ensures.bytes
    (omega (arith, long)) c.remove_mark.ensures in
    let read = c.in_ok-take_parts.ensures.goes_on c.args.taker.now _ begins in
    ended g.T.TakeRows.next c.args.taker.now _ _ _ _ _ c.in_ok-take_parts.ensures.end
    (rw c.deref-2.ensures.value at c.in_ok-take_rows-2.ensures) read
