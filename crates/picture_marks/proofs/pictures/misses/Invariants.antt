use Rattle.std.proofs.Common.{◌≡◌}
use Rattle.picture_marks.specs.Gathered.{gathered}
use Rattle.picture_marks.specs.Pictures.{shown_miss}
use Rattle.picture_marks.proofs.pictures.misses.Given as goal

abbrev pub invariant-loop-i : goal.invariant-loop-i
invariant-loop-i l = l.misses.items ≡ gathered (shown_miss l.trace l.window l.lanes l.rows) l.i
