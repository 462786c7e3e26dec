use Rattle.std.proofs.Common.{None}
use Rattle.run_story.specs.EndedSilences.{matters}
use Rattle.run_story.specs.Named.{IsPlaceBelow}
use Rattle.run_story.proofs.ended_silences.ended_silence.Given as goal

abbrev pub invariant-loop-k : goal.invariant-loop-k
invariant-loop-k l = IsPlaceBelow (matters l.trace l.delay) l.list l.k None
