use Rattle.std.proofs.Common.{◌∙◌, ap, sym}
use Rattle.std.specs.Prelude.{option_and_then}
use Rattle.command_line.specs.Arguments.{number_of}
use Rattle.command_line.proofs.Numbers.{no_number, one_number}
use Rattle.command_line.proofs.jobs.arguments.number.Goals as goal

pub returns-in_default-clause-value : goal.returns-in_default-clause-value
returns-in_default-clause-value c =
    sym (no_number c.args.least c.args.most c.in_ok-word.word.now (λ h. c.in_default.ensures.value.0 (h.0, h.1)))
    ∙ ap (option_and_then (number_of c.args.least c.args.most)) c.in_ok-word.ensures

pub returns-clause-value : goal.returns-clause-value
returns-clause-value c =
    let parsed = c.in-Ok.ensures.value.0 in
    sym (one_number c.args.least c.args.most c.in_ok-word.word.now
    c.in-Ok.value parsed.0.0 parsed.0.1 parsed.1 c.if-value-least.false c.if-value-most.false)
    ∙ ap (option_and_then (number_of c.args.least c.args.most)) c.in_ok-word.ensures
