use Rattle.std.proofs.Common.{ℕ, List, Vec, Global, Result, Ok, Err, IfOk, IfErr, ◌≡◌, false, inr, is_some, rules}
use Rattle.command_options.specs.declared.ImportOptions.{ImportOptions}
use Rattle.event_log.specs.declared.options.Options.{Options}
use Rattle.event_log.specs.Options.{AreOptions}
use Rattle.command_faults.specs.declared.faults.Fault.{Fault}
use Rattle.text_commands.specs.Imports.{IsUnimported, options_in}
use Rattle.c_report.specs.Commands.{IsImportFor, IsTextOfLog, IsUnimportedFor}
use Rattle.c_report.proofs.jobs.imported.Goals as goal

text-for : (given : ImportOptions) (o : Options) (log : List ℕ) (r : Result (Vec ℕ Global) Fault)
    → is_some given.from ≡ false → AreOptions (options_in given) o → IfOk r (λ out. IsTextOfLog given.form o log out.items)
    → IfOk r (λ out. IsImportFor given log out.items)
text-for given o log (Ok out) whole a h = (whole, (o, a, h))
text-for given o log (Err w) whole a h = tt

refused-for : (given : ImportOptions) (o : Options) (log : List ℕ) (r : Result (Vec ℕ Global) Fault)
    → is_some given.from ≡ false → AreOptions (options_in given) o → IfErr r (IsUnimported given.form o log)
    → IfErr r (IsUnimportedFor given log)
refused-for given o log (Ok out) whole a h = tt
refused-for given o log (Err w) whole a h = inr (whole, inr (o, a, h))

pub returns-clause-imported : goal.returns-clause-imported
returns-clause-imported c =
    text-for c.args.given.now c.in_ok-options.options c.args.text.now c.log_text.result (search rules)
    c.in_ok-options.ensures.options c.log_text.ensures.text

pub returns-clause-refused : goal.returns-clause-refused
returns-clause-refused c =
    refused-for c.args.given.now c.in_ok-options.options c.args.text.now c.log_text.result (search rules)
    c.in_ok-options.ensures.options c.log_text.ensures.refused
