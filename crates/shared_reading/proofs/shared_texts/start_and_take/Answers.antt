use Rattle.std.proofs.lemmas.Result.{err_from_is_err_and}
use Rattle.shared_reading.proofs.shared_texts.start_and_take.Goals as goal

pub returns-in_err-take_all-clause-goes_on : goal.returns-in_err-take_all-clause-goes_on
returns-in_err-take_all-clause-goes_on g c =
    let p = err_from_is_err_and c.from_residual-in_err-take_all.result c.from_residual-in_err-take_all.ensures.1 in
    λ known h. rw (p.1, p.2) (c.in_err-take_all.ensures.goes_on known (c.in_ok-ended.ensures.goes_on known h))
