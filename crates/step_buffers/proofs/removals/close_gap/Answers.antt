use Rattle.std.proofs.Common.{◌+◌, ◌-◌, ◌∙◌, drop, ap}
use Rattle.step_buffers.proofs.RemovedIds.{moved-on}
use Rattle.step_buffers.proofs.removals.close_gap.Goals as goal

pub returns-then-kept-start-clause-left : goal.returns-then-kept-start-clause-left
returns-then-kept-start-clause-left c =
    let old = c.args.list.now.items in
    ap (drop (c.args.start + (c.args.until - c.args.kept))) c.copy_within.ensures.items
    ∙ moved-on old c.args.start c.args.kept c.args.until c.requires.first c.requires.gap c.requires.within
