use Rattle.std.proofs.lemmas.Result.{err_from_is_err_and}
use Rattle.command_options.specs.declared.ImportForm.TheVariants as forms
use Rattle.text_commands.proofs.ImportFaults.{refused-unimported}
use Rattle.text_commands.proofs.imports.import_of.Goals as goal

pub returns-in_err-log_import-clause-refused : goal.returns-in_err-log_import-clause-refused
returns-in_err-log_import-clause-refused g c =
    let p = err_from_is_err_and c.from_residual.result c.from_residual.ensures.1 in
    rw (p.1, p.2) (refused-unimported forms.Trace c.args.options.now
    c.args.text.items c.in_err-log_import.field-0.0 c.in_err-log_import.ensures.refused)

pub returns-clause-import : goal.returns-clause-import
returns-clause-import g c = c.in_ok-log_import.ensures.import
