use Rattle.std.proofs.lemmas.Result.{err_from_is_err_and}
use Rattle.locked_recorder.proofs.recorders.Recorder.audit.Goals as goal

pub returns-in_err-are_its_own-clause-refused : goal.returns-in_err-are_its_own-clause-refused
returns-in_err-are_its_own-clause-refused g c =
    let why = err_from_is_err_and c.from_residual.result c.from_residual.ensures.1 in
    rw (why.1, why.2, ← c.self.view_is) (c.in_err-are_its_own.ensures.refused c.args.views.now c.args.self.now.limit)
