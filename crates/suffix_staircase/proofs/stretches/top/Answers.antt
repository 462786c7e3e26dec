use Rattle.std.proofs.Common.{rules}
use Rattle.suffix_staircase.proofs.KeptStretches.{kept_last}
use Rattle.suffix_staircase.proofs.stretches.top.Goals as goal

pub returns : goal.returns
returns c = rw (← kept_last c.args.stretches.now) (search rules)
