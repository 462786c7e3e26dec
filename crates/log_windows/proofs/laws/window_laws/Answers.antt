use Rattle.log_windows.proofs.WindowLaws.{at-once, cut, listed, names-kept, receives}
use Rattle.log_windows.proofs.laws.window_laws.Goals as goal

pub returns-clause-window : goal.returns-clause-window
returns-clause-window c = at-once

pub returns-clause-cut : goal.returns-clause-cut
returns-clause-cut c = cut

pub returns-clause-lists : goal.returns-clause-lists
returns-clause-lists c = listed

pub returns-clause-receives : goal.returns-clause-receives
returns-clause-receives c = receives

pub returns-clause-kept : goal.returns-clause-kept
returns-clause-kept c = names-kept
