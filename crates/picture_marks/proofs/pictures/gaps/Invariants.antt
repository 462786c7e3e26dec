use Rattle.std.proofs.Common.{◌≡◌}
use Rattle.picture_marks.specs.Gathered.{gathered}
use Rattle.picture_marks.specs.Pictures.{shown_gap}
use Rattle.picture_marks.proofs.pictures.gaps.Given as goal

abbrev pub invariant-loop-i : goal.invariant-loop-i
invariant-loop-i l = l.gaps.items ≡ gathered (shown_gap l.window l.lanes l.rows) l.i
