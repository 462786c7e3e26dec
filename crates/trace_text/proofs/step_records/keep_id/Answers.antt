use Rattle.std.proofs.Common.{true}
use Rattle.trace_text.specs.JudgedIds.{AreKept}
use Rattle.trace_text.proofs.JudgedIds.{kept-more, kept-past}
use Rattle.trace_text.proofs.step_records.keep_id.Goals as goal

pub returns-then-not-rising : goal.returns-then-not-rising
returns-then-not-rising c = λ all h. kept-past all c.args.ids.now.items c.args.id (rw c.if-not-rising.true at h)

pub returns : goal.returns
returns c = λ all h.
    let kept : AreKept all c.args.ids.now.items true = rw c.if-not-rising.false at h in
    let rises = rw c.deref.ensures.value at c.is_above_last-rises.ensures in
    rw c.in_ok-push.ensures.items (kept-more all c.args.ids.now.items c.args.id c.is_above_last-rises.result kept rises)
