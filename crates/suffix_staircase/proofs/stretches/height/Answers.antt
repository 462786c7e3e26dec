use Rattle.std.proofs.Common.{Some, None, reverse}
use Rattle.suffix_staircase.proofs.KeptStretches.{height-first}
use Rattle.suffix_staircase.proofs.stretches.height.Goals as goal

pub returns-in-Some : goal.returns-in-Some
returns-in-Some c = height-first (reverse c.args.stretches.now) (Some c.in-Some.top) c.requires c.in-Some.ensures

pub returns-in-None : goal.returns-in-None
returns-in-None c = height-first (reverse c.args.stretches.now) None c.requires c.in-None.ensures
