use Rattle.std.proofs.Common.{length, refl, ap}
use Rattle.run_story.proofs.CalmRows.{calm_below-first, calm_below-kept, calm_below-next}
use Rattle.run_story.proofs.calm.calmest.Goals as goal
use Rattle.run_story.proofs.calm.calmest.Goals.{then-is_calmer, else-is_calmer}

pub loop-k-init : goal.loop-k-init
loop-k-init c = calm_below-first c.args.last c.args.rows.now (λ e. c.if-rows-eq0.false (ap length e))

pub loop-k-preserved : goal.loop-k-preserved
loop-k-preserved c =
    elim c.if-is_calmer.branch [
      | then-is_calmer w ↦ rw w.calm-is (calm_below-next c.args.last c.args.rows.now
          c.loop-k.k c.loop-k.calm _ _ c.requires.rows c.loop-k.invariant c.loop-k-test.true (w.if-is_calmer.ensures.0 refl))
      | else-is_calmer w ↦ rw w.calm-is (calm_below-kept c.args.last c.args.rows.now
          c.loop-k.k c.loop-k.calm _ _ c.loop-k.invariant c.loop-k-test.true (λ m. let e = w.if-is_calmer.ensures.1 m in cc))
    ]
