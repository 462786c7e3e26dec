use Rattle.picture_marks.proofs.ColumnSteps.{strokes_exact}
use Rattle.picture_marks.proofs.strokes.strokes_of.Goals as goal

pub returns-clause-exact : goal.returns-clause-exact
returns-clause-exact c = strokes_exact c.args.trace.now
    (record { columns = c.args.columns; busy = c.in_ok-busy.busy }) c.in_ok-busy.ensures.marked
