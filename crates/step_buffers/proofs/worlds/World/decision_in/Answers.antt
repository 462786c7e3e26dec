use Rattle.std.proofs.Common.{◌+◌, ◌-◌, ◌≤◌, ◌∙◌, sym, arith}
use Rattle.step_buffers.specs.HeardTables.{passed}
use Rattle.step_buffers.proofs.KeptProcessors.{IsProcessor-at}
use Rattle.step_buffers.proofs.worlds.World.decision_in.Goals as goal

pub returns-then-round-processor : goal.returns-then-round-processor
returns-then-round-processor c =
    let is = IsProcessor-at c.self.inside.trace.config
    c.self.inside.trace.steps c.self.inside.processors.items c.args.p c.index-processor.result.now
    c.self.invariant.0.processors (rw (← c.self.view_is) at c.requires.processor) c.index-processor.ensures in
    let first = c.requires.first in
    let reached : c.args.round ≤ passed c.self.inside.trace.steps c.args.p + 1 = rw (← c.self.view_is) at c.requires.reached in
    let early = c.if-round-processor.true in
    rw (← c.self.view_is) (sym (is.stands.decided.before (c.args.round - 1) (omega arith) (omega arith)))

pub returns : goal.returns
returns c =
    let is = IsProcessor-at c.self.inside.trace.config
    c.self.inside.trace.steps c.self.inside.processors.items c.args.p c.index-processor.result.now
    c.self.invariant.0.processors (rw (← c.self.view_is) at c.requires.processor) c.index-processor.ensures in
    let first = c.requires.first in
    let reached : c.args.round ≤ passed c.self.inside.trace.steps c.args.p + 1 = rw (← c.self.view_is) at c.requires.reached in
    let late = c.if-round-processor.false in
    c.decision.ensures ∙ rw (← c.self.view_is) (sym (is.stands.decided.after (c.args.round - 1) (omega arith) (omega arith)))
