use Rattle.std.proofs.Common.{◌≡◌, ◌++◌, None, drop}
use Rattle.text_commands.specs.Briefs.{brief_after}
use Rattle.text_commands.proofs.briefs.brief_rows.Given as goal

abbrev pub invariant-loop-row : goal.invariant-loop-row
invariant-loop-row l = l.kept.items ++ brief_after l.before (drop l.row-index l.rows) ≡ brief_after None l.rows
