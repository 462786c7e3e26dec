use Rattle.std.proofs.Common.{map}
use Rattle.run_words.specs.LaneLists.{AreLanesTo}
use Rattle.run_words.proofs.lane_lists.set_of.Given as goal

abbrev pub invariant-loop-i : goal.invariant-loop-i
invariant-loop-i l = AreLanesTo (map (λ x. x.now) l.names) (map (λ x. x.now) l.parts) l.count l.i l.set
