use Rattle.std.proofs.lemmas.Result.{err_from_is_err_and}
use Rattle.command_options.specs.declared.ImportForm.TheVariants as forms
use Rattle.text_commands.proofs.ImportFaults.{refused-unimported}
use Rattle.text_commands.proofs.TablesRead.{table-imports}
use Rattle.c_report.proofs.jobs.table_text_of.Goals as goal

pub returns-in_err-log_table-clause-refused : goal.returns-in_err-log_table-clause-refused
returns-in_err-log_table-clause-refused c =
    let p = err_from_is_err_and c.from_residual.result c.from_residual.ensures.1 in
    rw (p.1, p.2)
    (refused-unimported forms.Table c.args.options.now c.args.text.now c.in_err-log_table.field-0.0 c.in_err-log_table.ensures.refused)

pub returns-clause-table : goal.returns-clause-table
returns-clause-table c =
    let t = rw c.in_ok-log_table.was at c.log_table.ensures.table in
    record {
      import = c.in_ok-log_table.field-0.import;
      exact = table-imports c.args.options.now c.args.text.now _ _ t;
      written = t;
      told = tt;
    }
