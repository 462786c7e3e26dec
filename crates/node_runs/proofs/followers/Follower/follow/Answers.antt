use Rattle.std.proofs.Common.{◌∙◌, refl}
use Rattle.node_runs.proofs.ToldLines.{told_nothing, told_on}
use Rattle.node_runs.proofs.followers.Follower.follow.Goals as goal

pub loop-preserved : goal.loop-preserved
loop-preserved g c =
    (c.look.ensures.set ∙ c.loop.invariant.0, told_on _ _ _ _ _ _ _ _ _ c.loop.invariant.0 c.loop.invariant.1 c.look.ensures.told)

pub loop-init : goal.loop-init
loop-init g c = (refl, told_nothing _ _ _)
