use Rattle.std.proofs.Common.{sym}
use Rattle.decision_claims.proofs.FormulaReadings.{second_part}
use Rattle.decision_claims.proofs.formula_texts.Reading.take.Goals as goal

pub returns-in-Err-push-clause-more : goal.returns-in-Err-push-clause-more
returns-in-Err-push-clause-more c = λ e. second_part c.args.self.now c.args.lexeme c.in-Ok.field-0 c.in-Some.part
    (sym c.in-Ok.ensures.next) c.in-Some.is c.in-Err-push.ensures.more
