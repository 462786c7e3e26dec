use Rattle.std.proofs.lemmas.Result.{err_from_is_err_and}
use Rattle.command_options.specs.declared.ImportForm.TheVariants as forms
use Rattle.text_commands.proofs.WindowFaults.{refused-untold}
use Rattle.text_commands.proofs.windows.table_texts.Goals as goal

pub returns-in_err-import-clause-refused : goal.returns-in_err-import-clause-refused
returns-in_err-import-clause-refused c =
    let p = err_from_is_err_and c.from_residual.result c.from_residual.ensures.1 in
    rw (p.1, p.2)
    (refused-untold forms.Table c.args.options.now c.args.window.now c.in_err-import.field-0.0 c.in_err-import.ensures.refused)
