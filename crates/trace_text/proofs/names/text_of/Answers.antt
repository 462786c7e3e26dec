use Rattle.std.proofs.Common.{◌∙◌, ap, Some}
use Rattle.trace_text.proofs.NameTexts.{text_of-text, text_of-broken}
use Rattle.trace_text.proofs.names.text_of.Goals as goal

pub returns-in-Ok : goal.returns-in-Ok
returns-in-Ok c = ap (λ text. Some text) c.in-Ok.ensures.cases.0 ∙ text_of-text c.args.bytes.now c.in-Ok.ensures.cases.1

pub returns-in-Err : goal.returns-in-Err
returns-in-Err c = text_of-broken c.args.bytes.now c.in-Err.ensures.cases.0
