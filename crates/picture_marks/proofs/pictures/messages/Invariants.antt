use Rattle.std.proofs.Common.{◌≡◌}
use Rattle.picture_marks.specs.Gathered.{gathered}
use Rattle.picture_marks.specs.Pictures.{shown_message}
use Rattle.picture_marks.proofs.pictures.messages.Given as goal

abbrev pub invariant-loop-i : goal.invariant-loop-i
invariant-loop-i l = l.messages.items ≡ gathered (shown_message l.trace l.window l.lanes) l.i
