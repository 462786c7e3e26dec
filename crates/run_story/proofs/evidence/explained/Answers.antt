use Rattle.std.proofs.Common.{sym, arith}
use Rattle.run_story.proofs.EvidenceLists.{explained-first, explained-none, explained-nowhere, unexplained-next}
use Rattle.run_story.proofs.evidence.explained.Goals as goal

pub returns-then-delay-stall : goal.returns-then-delay-stall
returns-then-delay-stall c = explained-none c.args.trace.now c.args.delays.now c.args.stall c.loop-k.k _ c.requires.order c.loop-k.invariant
    (λ l. c.if-delay-stall.true)

pub returns-then-explains : goal.returns-then-explains
returns-then-explains c = explained-first c.args.trace.now c.args.delays.now c.args.stall c.loop-k.k _ c.loop-k-test.true c.loop-k.invariant
    (sym c.if-explains.ensures)

pub loop-k-preserved : goal.loop-k-preserved
loop-k-preserved c =
    unexplained-next c.args.trace.now c.args.delays.now c.args.stall c.loop-k.k _ c.loop-k.invariant (sym c.if-explains.ensures)

pub returns : goal.returns
returns c = explained-nowhere c.args.trace.now c.args.delays.now c.args.stall c.loop-k.k
    (omega (arith, c.loop-k-test.false)) c.loop-k.invariant
