use Rattle.std.proofs.Common.{rules}
use Rattle.std.proofs.lemmas.Result.{err_from_is_err_and}
use Rattle.locked_recorder.specs.Choices.{chosen}
use Rattle.locked_recorder.proofs.SendsFirst.{IsChosen-kept, IsChoiceRefusal-refused}
use Rattle.locked_recorder.proofs.seats.Seat.record.Goals as goal

pub returns-in_err-done-clause-refused : goal.returns-in_err-done-clause-refused
returns-in_err-done-clause-refused g c =
    let why = err_from_is_err_and c.from_residual.result c.from_residual.ensures.1 in
    rw (why.1, why.2) (IsChoiceRefusal-refused c.args.recorder.now c.args.self.now c.self.inside.proc
    (chosen c.args.sends c.args.step) c.in_err-done.field-0.0
    (search rules) (search rules) c.in_err-done.ensures.refused)

pub returns-clause-recorded : goal.returns-clause-recorded
returns-clause-recorded g c =
    IsChosen-kept c.args.recorder.now c.self.inside.proc (chosen c.args.sends c.args.step) c.args.self.now _ c.in_ok-done.done
    (search rules) (search rules) c.in_ok-done.ensures.answered
