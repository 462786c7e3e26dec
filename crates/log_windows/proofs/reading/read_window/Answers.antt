use Rattle.std.proofs.lemmas.Result.{err_from_is_err_and}
use Rattle.log_windows.proofs.WindowsRead.{kept-refused, memory-anywhere, row-refused, window-read}
use Rattle.log_windows.proofs.reading.read_window.Goals as goal

pub returns-in_default-clause-refused : goal.returns-in_default-clause-refused
returns-in_default-clause-refused g c = memory-anywhere c.args.unit c.args.from c.args.until _

pub returns-in_err-take_rows_from-clause-refused : goal.returns-in_err-take_rows_from-clause-refused
returns-in_err-take_rows_from-clause-refused g c =
    let p = err_from_is_err_and c.from_residual.result c.from_residual.ensures.1 in
    rw (p.1, p.2)
    (row-refused c.args.unit c.args.from c.args.until _ c.in-Ok.reading _ c.in-Ok.ensures c.in_err-take_rows_from.ensures.refused)

pub returns-in_err-window_of-clause-refused : goal.returns-in_err-window_of-clause-refused
returns-in_err-window_of-clause-refused g c =
    let p = err_from_is_err_and c.from_residual-in_err-window_of.result c.from_residual-in_err-window_of.ensures.1 in
    rw (p.1, p.2) (kept-refused c.args.unit c.args.from
    c.args.until _ c.in-Ok.reading _ _ c.in-Ok.ensures c.in_ok-take_rows_from.ensures.read c.in_err-window_of.ensures.refused)

pub returns-clause-window : goal.returns-clause-window
returns-clause-window g c = window-read c.args.unit
    c.args.from c.args.until _ c.in-Ok.reading _ _ c.in-Ok.ensures c.in_ok-take_rows_from.ensures.read c.in_ok-window_of.ensures.window
