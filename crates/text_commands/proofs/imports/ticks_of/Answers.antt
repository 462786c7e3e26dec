use Rattle.std.proofs.lemmas.Result.{err_from_is_err_and}
use Rattle.command_options.specs.declared.ImportForm.TheVariants as forms
use Rattle.text_commands.proofs.ImportFaults.{refused-unimported}
use Rattle.text_commands.proofs.imports.ticks_of.Goals as goal

pub returns-in_err-log_ticks-clause-refused : goal.returns-in_err-log_ticks-clause-refused
returns-in_err-log_ticks-clause-refused c =
    let p = err_from_is_err_and c.from_residual.result c.from_residual.ensures.1 in
    rw (p.1, p.2) (refused-unimported forms.Ticks c.args.options.now c.args.text.items c.in_err-log_ticks.field-0.0
    (rw c.deref.ensures.value at c.in_err-log_ticks.ensures.refused))

pub returns-clause-table : goal.returns-clause-table
returns-clause-table c = rw c.deref.ensures.value at c.in_ok-log_ticks.ensures.table
