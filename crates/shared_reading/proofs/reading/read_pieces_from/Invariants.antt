use Rattle.std.proofs.Common.{◌-◌, Ok, length}
use Rattle.shared_reading.specs.Pieces.{GoesOn}
use Rattle.shared_reading.proofs.reading.read_pieces_from.Given as goal

abbrev pub invariant-loop-reached : goal.invariant-loop-reached
invariant-loop-reached l = GoesOn l.fn.stage l.stage l.fn.text l.fn.from (Ok l.at)

abbrev pub decreases-loop-reached : goal.decreases-loop-reached
decreases-loop-reached l = length l.fn.text - l.at
