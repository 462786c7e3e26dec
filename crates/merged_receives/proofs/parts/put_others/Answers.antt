use Rattle.std.specs.Prelude.{slice_index_or}
use Rattle.merged_receives.proofs.Pieces.{others-step}
use Rattle.merged_receives.proofs.parts.put_others.Goals as goal

pub loop-i-preserved : goal.loop-i-preserved
loop-i-preserved c = others-step (λ p. slice_index_or c.args.places.now p 0)
    c.args.numbers.now c.loop-i.i c.loop-i.numbers c.place_at.result c.loop-i-test.true c.loop-i.invariant c.place_at.ensures
