use Rattle.std.proofs.Common.{[], ◌∷◌, refl}
use Rattle.text_commands.proofs.report_parts.text_for.Goals as goal

-- the text of one row, if a tick was asked for
pub returns-clause-rows : goal.returns-clause-rows
returns-clause-rows c = rw c.in-Some.is (record {
  rows = c.in_ok-row.row ∷ [];
  exact = (c.in_ok-row.row, c.in_ok-row.ensures.row, refl);
  written = c.in_ok-report_text_of-2.ensures;
})
