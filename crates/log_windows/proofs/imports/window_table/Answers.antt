use Rattle.std.proofs.lemmas.Result.{err_from_is_err_and}
use Rattle.event_log.specs.declared.refusals.LogError.TheVariants.{Memory}
use Rattle.log_windows.proofs.imports.window_table.Goals as goal

-- out of memory, which is no refusal of the window's text
pub returns-in_err-table-in-Ok-clause-refused : goal.returns-in_err-table-in-Ok-clause-refused
returns-in_err-table-in-Ok-clause-refused c =
    let p = err_from_is_err_and c.from_residual.result c.from_residual.ensures.1 in
    rw (p.1, p.2) (record { own = Memory; exact = tt; is = c.in_err-table-in-Ok.ensures.refused })
