use Rattle.std.proofs.Common.{◌∙◌, sym, arith}
use Rattle.step_buffers.proofs.NextSends.{destination_after-sends, IsProc-next_send}
use Rattle.step_buffers.proofs.KeptProcessors.{IsProcessor-at}
use Rattle.step_buffers.proofs.sends.send.Goals as goal

pub said_to-requires-clause-receiver : goal.said_to-requires-clause-receiver
said_to-requires-clause-receiver c =
    rw c.config.ensures (IsProc-next_send c.args.trace.now.config c.args.trace.now.steps c.args.p c.args.to c.requires.next.due)

pub said_to-requires-clause-positive : goal.said_to-requires-clause-positive
said_to-requires-clause-positive c =
    let is = IsProcessor-at c.args.trace.now.config c.args.trace.now.steps c.args.processors.now.items
    c.args.p c.index-sender.result.now c.requires.world.processors c.requires.next.proc c.index-sender.ensures in
    omega (arith, is.stands.round)

pub said_to-requires-clause-sends : goal.said_to-requires-clause-sends
said_to-requires-clause-sends c =
    let config = c.args.trace.now.config in
    let sender = c.index-sender.result.now in
    let is = IsProcessor-at config c.args.trace.now.steps
    c.args.processors.now.items c.args.p sender c.requires.world.processors c.requires.next.proc c.index-sender.ensures in
    rw c.config.ensures
    (destination_after-sends config sender.node c.args.p sender.round sender.last c.args.to (sym is.stands.next ∙ c.requires.next.due))

pub said_to-requires-clause-said : goal.said_to-requires-clause-said
said_to-requires-clause-said c =
    let is = IsProcessor-at c.args.trace.now.config c.args.trace.now.steps c.args.processors.now.items
    c.args.p c.index-sender.result.now c.requires.world.processors c.requires.next.proc c.index-sender.ensures in
    rw c.config.ensures is.stands.said

pub post-requires-clause-place : goal.post-requires-clause-place
post-requires-clause-place c =
    let is = IsProcessor-at c.args.trace.now.config c.args.trace.now.steps c.args.processors.now.items
    c.args.p c.index-sender.result.now c.requires.world.processors c.requires.next.proc c.index-sender.ensures in
    rw (← is.stands.round, ← is.stands.node) (rw c.config.ensures at c.in_ok-place.ensures)
