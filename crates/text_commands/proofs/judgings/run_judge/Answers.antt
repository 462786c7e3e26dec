use Rattle.std.proofs.Common.{rules}
use Rattle.std.specs.Prelude.{string_bytes}
use Rattle.std.proofs.lemmas.Result.{err_from_is_err_and}
use Rattle.text_commands.specs.Answers.{IsAnswerTo, IsUnanswered}
use Rattle.text_commands.specs.Judgings.{IsJudgedText, IsUnjudged}
use Rattle.text_commands.specs.Serving.{IsServeFault, MayTell}
use Rattle.text_commands.proofs.DeclinedTraces.{text_of}
use Rattle.text_commands.proofs.WrittenAnswers.{cut, front-untold, of_known, write-told}
use Rattle.text_commands.proofs.judgings.run_judge.Goals as goal

-- the text wasn't written whole
pub returns-in_err-write_text-clause-served : goal.returns-in_err-write_text-clause-served
returns-in_err-write_text-clause-served g c =
    let p = err_from_is_err_and c.from_residual-in_err-write_text.result c.from_residual-in_err-write_text.ensures.1 in
    let read = c.in_ok-trace.ensures.read in
    let Gives = IsAnswerTo (IsJudgedText c.args.judging.now c.args.decisions.now) in
    let Refuses = IsUnanswered (IsUnjudged c.args.judging.now c.args.decisions.now) in
    rw (p.1, p.2) (record {
      cause = of_known (λ text. IsServeFault Gives Refuses text _ _ _) read.text _ read.is
          (cut Gives Refuses read.text (string_bytes c.in_ok-told.told.text) _ _ _ (record {
            trace = c.in_ok-trace.trace;
            read = text_of read;
            holds = record { verdict = c.in_ok-told.told.verdict; exact = c.in_ok-told.ensures.verdict };
          })
          tt (front-untold _ _ _ _ (rw c.as_bytes.ensures.value at c.in_err-write_text.ensures.part)));
      own = write-told (MayTell (IsUnjudged c.args.judging.now c.args.decisions.now)) _;
      unread = search rules;
      unwritten = search rules;
    })
