use Rattle.run_page.proofs.SilenceTimes.{time-between}
use Rattle.run_page.proofs.spreads.silence_time.Goals as goal

pub returns : goal.returns
returns c =
    let before = rw (c.saturating_sub.ensures, c.in_ok-before.was) at c.step_in.ensures in
    let after = rw c.in_ok-after.was at c.step_in-2.ensures in
    λ time. rw c.passed.ensures
    (time-between c.args.trace.now c.args.said.now c.args.stall c.in_ok-before.before c.in_ok-after.after before after time)
