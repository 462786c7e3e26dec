use Rattle.std.proofs.Common.{◌∙◌, rules, arith}
use Rattle.std.proofs.lemmas.Result.{err_from_is_err_and}
use Rattle.shared_reading.proofs.PartsRead.{read-within}
use Rattle.shared_reading.proofs.UnderWayRead.{moved}
use Rattle.shared_reading.proofs.shared_texts.start_all.Goals as goal

pub returns-then-not-branch-clause-goes_on : goal.returns-then-not-branch-clause-goes_on
returns-then-not-branch-clause-goes_on g c = λ known h.
    moved known _ _ _ _ _ c.in_ok-start_piece.ensures.moved (c.in_ok-ended.ensures.goes_on known _ (c.loop-ended.invariant.read known h))

pub returns-then-ended-clause-goes_on : goal.returns-then-ended-clause-goes_on
returns-then-ended-clause-goes_on g c = λ known h.
    moved known _ _ _ _ _ c.in_ok-start_piece.ensures.moved (c.in_ok-ended.ensures.goes_on known _ (c.loop-ended.invariant.read known h))

pub returns-in_err-start_piece-clause-goes_on : goal.returns-in_err-start_piece-clause-goes_on
returns-in_err-start_piece-clause-goes_on g c =
    let p = err_from_is_err_and c.from_residual-in_err-start_piece.result c.from_residual-in_err-start_piece.ensures.1 in
    λ known h. rw (p.1, p.2, c.in_err-start_piece.ensures.memory) (read-within known _ _ _ c.in_ok-ended.ensures.limit
    (c.in_ok-ended.ensures.goes_on known _ (c.loop-ended.invariant.read known h)))

pub returns-in_err-take_oldest-clause-goes_on : goal.returns-in_err-take_oldest-clause-goes_on
returns-in_err-take_oldest-clause-goes_on g c =
    let p = err_from_is_err_and c.from_residual-in_err-take_oldest.result c.from_residual-in_err-take_oldest.ensures.1 in
    λ known h. rw (p.1, p.2) (c.in_err-take_oldest.ensures.goes_on known (moved known _ _ _ _ _ c.in_ok-start_piece.ensures.moved
    (c.in_ok-ended.ensures.goes_on known _ (c.loop-ended.invariant.read known h))))

pub returns-then-not-branch-2-clause-goes_on : goal.returns-then-not-branch-2-clause-goes_on
returns-then-not-branch-2-clause-goes_on g c = λ known h. c.in_ok-take_oldest.ensures.goes_on known
    (moved known _ _ _ _ _ c.in_ok-start_piece.ensures.moved (c.in_ok-ended.ensures.goes_on known _ (c.loop-ended.invariant.read known h)))

pub loop-ended-preserved-else-not-branch-2 : goal.loop-ended-preserved-else-not-branch-2
loop-ended-preserved-else-not-branch-2 g c = record {
  piece = c.in_ok-take_oldest.ensures.room ∙ c.in_ok-ended.ensures.room ∙ c.loop-ended.invariant.piece;
  limit = search (rules, arith);
  read = λ known h. c.in_ok-take_oldest.ensures.goes_on known (moved known _ _ _ _ _ c.in_ok-start_piece.ensures.moved
      (c.in_ok-ended.ensures.goes_on known _ (c.loop-ended.invariant.read known h)));
  faults = c.in_ok-take_oldest.ensures.faults ∙ c.in_ok-ended.ensures.faults ∙ c.loop-ended.invariant.faults;
}

pub loop-ended-preserved : goal.loop-ended-preserved
loop-ended-preserved g c = record {
  piece = c.in_ok-ended.ensures.room ∙ c.loop-ended.invariant.piece;
  limit = search (rules, arith);
  read = λ known h. moved known _ _ _ _ _ c.in_ok-start_piece.ensures.moved
      (c.in_ok-ended.ensures.goes_on known _ (c.loop-ended.invariant.read known h));
  faults = c.in_ok-ended.ensures.faults ∙ c.loop-ended.invariant.faults;
}
