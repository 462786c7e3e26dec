use Rattle.std.proofs.Common.{◌<◌, ◌^◌, sym, ap, ◌∙◌, rules}
use Rattle.decision_claims.specs.FormulaTexts.{numbered, word_lexeme}
use Rattle.decision_claims.proofs.FormulaWords.{number_written, no_number}
use Rattle.decision_claims.proofs.lexemes.word_lexeme.Goals as goal

pub returns-in-Some : goal.returns-in-Some
unfolding word_lexeme
returns-in-Some c =
    let fits : c.in-Some.k < 2 ^ 64 = search rules in
    sym (ap (numbered c.args.word.now) (number_written c.args.word.now c.in-Some.k fits c.in-Some.ensures.some))

pub returns-in-None : goal.returns-in-None
unfolding word_lexeme
returns-in-None c = c.name_of.ensures ∙ sym (ap (numbered c.args.word.now) (no_number c.args.word.now c.in-None.ensures.none))
