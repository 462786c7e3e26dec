use Rattle.std.proofs.Common.{◌≡◌}
use Rattle.picture_marks.specs.Gathered.{gathered}
use Rattle.picture_marks.specs.Pictures.{shown_step}
use Rattle.picture_marks.proofs.pictures.steps.Given as goal

abbrev pub invariant-loop-i : goal.invariant-loop-i
invariant-loop-i l = l.steps.items ≡ gathered (shown_step l.trace l.window l.lanes) l.i
