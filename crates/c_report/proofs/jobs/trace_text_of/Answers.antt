use Rattle.std.proofs.lemmas.Result.{err_from_is_err_and, IfOk-weaker}
use Rattle.command_options.specs.declared.ImportForm.TheVariants as forms
use Rattle.text_commands.proofs.ImportFaults.{refused-unimported}
use Rattle.c_report.proofs.jobs.trace_text_of.Goals as goal

pub returns-in_err-import-clause-refused : goal.returns-in_err-import-clause-refused
returns-in_err-import-clause-refused c =
    let p = err_from_is_err_and c.from_residual.result c.from_residual.ensures.1 in
    rw (p.1, p.2)
    (refused-unimported forms.Trace c.args.options.now c.args.text.now c.in_err-import.field-0.0 c.in_err-import.ensures.refused)

pub returns-clause-trace : goal.returns-clause-trace
returns-clause-trace c = IfOk-weaker c.answer.result _ _
    (λ out h. record { import = c.in_ok-import.import; exact = c.in_ok-import.ensures.import; written = h; told = tt })
    c.answer.ensures.gives
