use Rattle.std.proofs.Common.{ℕ, List, ◌≡◌, ◌+◌, ◌-◌, ◌∙◌, length, arith}
use Rattle.step_buffers.proofs.RemovedIds.{shared-last}
use Rattle.step_buffers.proofs.removals.shared_back.Goals as goal

pub loop-at-preserved : goal.loop-at-preserved
loop-at-preserved c =
    let most = c.min-most.ensures in
    let more = c.loop-at-test.true in
    let at = c.loop-at.at in
    let ids : List ℕ = c.args.ids.now in
    let waiting : List ℕ = c.args.waiting.now in
    let here : length ids - 1 - at + 1 ≡ length ids - at = omega arith in
    let next : length ids - 1 - at ≡ length ids - (at + 1) = omega arith in
    let waits : length waiting - 1 - at + 1 ≡ length waiting - at = omega arith in
    let later : length waiting - 1 - at ≡ length waiting - (at + 1) = omega arith in
    let step = shared-last ids waiting (length ids - 1 - at)
    (length waiting - 1 - at) c.requires (omega arith) (omega arith) c.if-waiting-at.false in
    c.loop-at.invariant ∙ (rw (here, waits, next, later) at step)
