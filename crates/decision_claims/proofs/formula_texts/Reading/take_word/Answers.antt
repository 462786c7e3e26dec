use Rattle.std.proofs.Common.{refl}
use Rattle.decision_claims.proofs.FormulaWords.{no_word, word_there}
use Rattle.decision_claims.proofs.formula_texts.Reading.take_word.Goals as goal

pub returns-then-word-eq0-clause-ok : goal.returns-then-word-eq0-clause-ok
returns-then-word-eq0-clause-ok c =
    rw (no_word c.args.piece.now c.trim_ascii-word.result.now c.trim_ascii-word.ensures.value c.if-word-eq0.true) refl

pub returns-clause-ok : goal.returns-clause-ok
returns-clause-ok c = rw (
  word_there c.args.piece.now c.trim_ascii-word.result.now c.trim_ascii-word.ensures.value c.if-word-eq0.false,
  ← c.word_lexeme.ensures,
) c.take.ensures.ok

pub returns-clause-refused : goal.returns-clause-refused
returns-clause-refused c = rw (
  word_there c.args.piece.now c.trim_ascii-word.result.now c.trim_ascii-word.ensures.value c.if-word-eq0.false,
  ← c.word_lexeme.ensures,
) c.take.ensures.refused

pub returns-clause-more : goal.returns-clause-more
returns-clause-more c = rw (
  word_there c.args.piece.now c.trim_ascii-word.result.now c.trim_ascii-word.ensures.value c.if-word-eq0.false,
  ← c.word_lexeme.ensures,
) c.take.ensures.more
