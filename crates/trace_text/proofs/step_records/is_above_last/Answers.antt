use Rattle.std.proofs.Common.{◌∙◌, ap, sym}
use Rattle.std.specs.Option.{option_copied}
use Rattle.trace_text.proofs.JudgedIds.{above-last, above-none}
use Rattle.trace_text.proofs.step_records.is_above_last.Goals as goal

pub returns-in-Some : goal.returns-in-Some
returns-in-Some c = sym (above-last c.args.ids.now c.in-Some.last.now c.args.id (sym c.last.ensures.value ∙ ap option_copied c.in-Some.is))

pub returns-in-None : goal.returns-in-None
returns-in-None c = sym (above-none c.args.ids.now c.args.id (sym c.last.ensures.value ∙ ap option_copied c.in-None.is))
