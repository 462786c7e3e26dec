use Rattle.std.proofs.Common.{◌≢◌, ◌<◌, ◌≤◌, ℕ}
use Rattle.picture_marks.specs.Strokes.{has_stroke}
use Rattle.picture_marks.proofs.strokes.Strokes.first_with.Given as goal

-- none of the columns so far
abbrev pub invariant-loop-column : goal.invariant-loop-column
invariant-loop-column l = (c : ℕ) → l.from ≤ c → c < l.column → has_stroke l.self l.processor c ≢ l.is_busy
