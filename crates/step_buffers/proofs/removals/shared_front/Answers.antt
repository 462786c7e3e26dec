use Rattle.std.proofs.Common.{◌∙◌, arith}
use Rattle.step_buffers.proofs.RemovedIds.{shared-first}
use Rattle.step_buffers.proofs.removals.shared_front.Goals as goal

pub loop-at-preserved : goal.loop-at-preserved
loop-at-preserved c =
    let most = c.min-most.ensures in
    let more = c.loop-at-test.true in
    c.loop-at.invariant
    ∙ shared-first c.args.ids.now c.args.waiting.now c.loop-at.at c.requires (omega arith) (omega arith) c.if-waiting-at.false
