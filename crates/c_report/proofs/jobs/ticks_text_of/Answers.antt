use Rattle.std.proofs.lemmas.Result.{err_from_is_err_and}
use Rattle.command_options.specs.declared.ImportForm.TheVariants as forms
use Rattle.text_commands.proofs.ImportFaults.{refused-unimported}
use Rattle.c_report.proofs.jobs.ticks_text_of.Goals as goal

pub returns-in_err-table-clause-refused : goal.returns-in_err-table-clause-refused
returns-in_err-table-clause-refused c =
    let p = err_from_is_err_and c.from_residual.result c.from_residual.ensures.1 in
    rw (p.1, p.2)
    (refused-unimported forms.Ticks c.args.options.now c.args.text.now c.in_err-table.field-0.0 c.in_err-table.ensures.refused)
