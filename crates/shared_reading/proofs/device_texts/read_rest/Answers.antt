use Rattle.std.proofs.lemmas.Result.{err_from_is_err_and}
use Rattle.shared_reading.proofs.PartsRead.{ended, gives-end, gives-refusal}
use Rattle.shared_reading.proofs.device_texts.read_rest.Goals as goal

pub returns-in_err-read_alone : goal.returns-in_err-read_alone
returns-in_err-read_alone c =
    let p = err_from_is_err_and c.from_residual.result c.from_residual.ensures.1 in
    λ known left h end. rw (p.1, p.2) (ended known left c.args.progress _ end c.requires.limit
    (gives-refusal _ _ (rw (c.in_err-read_alone.was, c.deref.ensures.value) at c.read_alone.ensures)) h)

pub returns : goal.returns
returns c = λ known left h end. ended known left c.args.progress _ end c.requires.limit
    (rw c.trace_at_end.ensures (gives-end _ _ (rw (c.in_ok-read_alone.was, c.deref.ensures.value) at c.read_alone.ensures))) h
