use Rattle.std.proofs.Common.{inr, subst}
use Rattle.event_log.specs.Options.{IsOptionFault, told_options}
use Rattle.text_commands.proofs.imports.options_of.Goals as goal

-- what is no longest time is told
pub returns-in-Err-Idle-clause-more : goal.returns-in-Err-Idle-clause-more
returns-in-Err-Idle-clause-more c =
    let refused = subst (IsOptionFault (told_options c.args.texts.now)) c.in-Err-Idle.field-0-is c.in-Err-Idle.ensures.refused in
    λ e. inr (inr refused)
