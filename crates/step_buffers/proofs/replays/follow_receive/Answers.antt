use Rattle.std.proofs.Common.{◌≡◌, None}
use Rattle.step_buffers.proofs.Common.{These, buffer, take_refusal}
use Rattle.step_buffers.proofs.ReplayedSteps.{takes-from_run, step_refusal-receive, off-from_refusal}
use Rattle.step_buffers.proofs.replays.follow_receive.Goals as goal

pub returns-clause-off : goal.returns-clause-off
returns-clause-off c =
    let config = c.args.world.now.trace.config in
    let steps = c.args.world.now.trace.steps in
    let p = c.args.p in
    let ends = c.args.ends in
    let ids = c.args.ids.now in
    off-from_refusal c.not_made.result c.in-Err.why _ _ c.not_made.ensures.reason c.in-Err.ensures.refused (λ run.
    let none : take_refusal (These c.as_slice.result) (buffer steps p)
    ≡ None = rw c.as_slice.ensures (takes-from_run config steps p ends ids run) in
    step_refusal-receive config c.args.world.now.limit steps p (These c.as_slice.result) ends ids c.requires run none)
