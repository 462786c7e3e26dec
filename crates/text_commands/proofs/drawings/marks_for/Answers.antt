use Rattle.text_commands.proofs.drawings.marks_for.Goals as goal

pub returns-clause-marks : goal.returns-clause-marks
returns-clause-marks c = record {
  window = c.in_ok-window.window;
  rows = c.in_ok-report.report.rows;
  exact = c.in_ok-report.ensures.report;
  drawn = rw c.rows.ensures at c.in_ok-window.ensures;
  shows = rw c.rows-2.ensures at c.in_ok-picture_of.ensures.shows;
  marks = c.in_ok-picture_of.ensures.exact;
  misses = rw c.rows-2.ensures at c.in_ok-picture_of.ensures.misses;
  gaps = rw c.rows-2.ensures at c.in_ok-picture_of.ensures.gaps c.args.set c.in_ok-report.ensures.report;
}
