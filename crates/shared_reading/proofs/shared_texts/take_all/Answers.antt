use Rattle.std.proofs.lemmas.Result.{err_from_is_err_and}
use Rattle.shared_reading.proofs.shared_texts.take_all.Goals as goal

pub returns-in_err-take_oldest-clause-goes_on : goal.returns-in_err-take_oldest-clause-goes_on
returns-in_err-take_oldest-clause-goes_on g c =
    let p = err_from_is_err_and c.from_residual.result c.from_residual.ensures.1 in
    λ known h. rw (p.1, p.2) (c.in_err-take_oldest.ensures.goes_on known (c.loop-reader.invariant.read known h))
