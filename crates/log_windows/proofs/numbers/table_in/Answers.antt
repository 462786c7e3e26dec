use Rattle.std.proofs.lemmas.Result.{err_from_is_err_and}
use Rattle.trace_text.specs.Records.{records_of_text}
use Rattle.log_windows.specs.NumberedRows.{NumberedRows}
use Rattle.log_windows.proofs.NumberedTables.{never-refused, only-memory}
use Rattle.log_windows.proofs.numbers.table_in.Goals as goal

pub returns-in_err-take_rows-clause-refused : goal.returns-in_err-take_rows-clause-refused
returns-in_err-take_rows-clause-refused c =
    let p = err_from_is_err_and c.from_residual.result c.from_residual.ensures.1 in
    let start : NumberedRows = record { places = c.args.places.now; text = c.new.result.items } in
    let why = c.in_err-take_rows.field-0.0 in
    rw (p.1, p.2) (only-memory why _ (λ h. never-refused start (records_of_text c.args.table.now) why h) c.in_err-take_rows.ensures)
