use Rattle.std.proofs.lemmas.Result.{err_from_is_err_and}
use Rattle.shared_reading.proofs.device_texts.read_parts.Goals as goal

pub returns-in_err-fill-clause-goes_on : goal.returns-in_err-fill-clause-goes_on
returns-in_err-fill-clause-goes_on g c =
    let p = err_from_is_err_and c.from_residual.result c.from_residual.ensures.1 in
    λ known h. rw (p.1, p.2) (c.in_err-fill.ensures.goes_on known _ (c.loop-alloc.invariant.read known h))

pub returns-in_err-take_part-clause-goes_on : goal.returns-in_err-take_part-clause-goes_on
returns-in_err-take_part-clause-goes_on g c =
    let p = err_from_is_err_and c.from_residual-in_err-take_part.result c.from_residual-in_err-take_part.ensures.1 in
    λ known h. rw (p.1, p.2)
    (c.in_err-take_part.ensures.goes_on known (c.in_ok-fill.ensures.goes_on known _ (c.loop-alloc.invariant.read known h)))
