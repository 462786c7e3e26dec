use Rattle.std.proofs.Common.{refl}
use Rattle.log_windows.proofs.SeamPlaces.{lines-closed, lines-last, none-later}
use Rattle.log_windows.proofs.seams.lines_len.Goals as goal

pub returns-in-Some-clause-closed : goal.returns-in-Some-clause-closed
returns-in-Some-clause-closed c = lines-closed c.args.text.now c.memrchr.result c.in-Some.at c.memrchr.ensures c.in-Some.is

pub returns-in-None-clause-closed : goal.returns-in-None-clause-closed
unfolding Rattle.shared_reading.specs.Seams.state_after
returns-in-None-clause-closed c = λ q. refl

pub returns-in-Some-clause-last : goal.returns-in-Some-clause-last
returns-in-Some-clause-last c = lines-last c.args.text.now c.memrchr.result c.in-Some.at c.memrchr.ensures c.in-Some.is

pub returns-in-None-clause-last : goal.returns-in-None-clause-last
returns-in-None-clause-last c = none-later c.args.text.now c.memrchr.result c.memrchr.ensures c.in-None.is
