use Rattle.std.proofs.Common.{refl}
use Rattle.step_buffers.proofs.KeptProcessors.{IsProcessor-at, IsWorld-received, IsWorld-kept}
use Rattle.step_buffers.proofs.receives.receive.Goals as goal

pub turned_node-requires-clause-receiver : goal.turned_node-requires-clause-receiver
turned_node-requires-clause-receiver c = IsProcessor-at c.args.trace.now.config c.args.trace.now.steps c.args.processors.now.items
    c.args.p c.index_mut-receiver.result.now c.requires.world.processors c.requires.next.proc c.index_mut-receiver.ensures.value

pub returns-in_err-turned-clause-world : goal.returns-in_err-turned-clause-world
returns-in_err-turned-clause-world c = IsWorld-kept c.args.trace.now
    c.args.trace.now c.args.letters.now.items c.args.letters.now.items c.args.processors.now.items c.args.p c.turned_node.new.receiver
    c.requires.world c.requires.next.proc refl c.requires.world.letters c.in_err-turned.ensures.receiver

pub returns-in_err-settle-clause-world : goal.returns-in_err-settle-clause-world
returns-in_err-settle-clause-world c = IsWorld-kept c.args.trace.now
    c.settle.new.trace c.args.letters.now.items c.settle.new.letters.items c.args.processors.now.items c.args.p c.settle.new.receiver
    c.requires.world c.requires.next.proc c.in_err-settle.ensures.err c.in_err-settle.ensures.letters c.in_err-settle.ensures.receiver

pub returns-clause-world : goal.returns-clause-world
returns-clause-world c = IsWorld-received c.args.trace.now c.settle.new.trace c.args.letters.now.items c.settle.new.letters.items
    c.args.processors.now.items c.args.p c.args.ends c.args.taken c.settle.new.receiver c.requires.world c.requires.next.proc
    c.in_ok-settle.ensures.grown c.in_ok-settle.ensures.run c.in_ok-settle.ensures.letters c.in_ok-settle.ensures.receiver
