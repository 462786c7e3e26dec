use Rattle.std.proofs.Common.{Some, None, reverse}
use Rattle.suffix_staircase.proofs.KeptStretches.{begins-first}
use Rattle.suffix_staircase.proofs.stretches.begins.Goals as goal

pub returns-in-Some : goal.returns-in-Some
returns-in-Some c =
    rw c.has_bounds_of.ensures
    (begins-first (reverse c.args.stretches.now) (Some c.in-Some.top) c.args.level.now c.requires c.in-Some.ensures)

pub returns-in-None : goal.returns-in-None
returns-in-None c = begins-first (reverse c.args.stretches.now) None c.args.level.now c.requires c.in-None.ensures
