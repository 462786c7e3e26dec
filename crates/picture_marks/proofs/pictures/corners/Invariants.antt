use Rattle.std.proofs.Common.{◌≡◌}
use Rattle.picture_marks.specs.Gathered.{gathered}
use Rattle.picture_marks.specs.Pictures.{corner}
use Rattle.picture_marks.proofs.pictures.corners.Given as goal

abbrev pub invariant-loop-i : goal.invariant-loop-i
invariant-loop-i l = l.corners.items ≡ gathered (corner l.last l.rows) l.i
