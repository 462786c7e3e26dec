use Rattle.std.proofs.Common.{sym}
use Rattle.run_story.proofs.DelayRuns.{longer-run}
use Rattle.run_story.proofs.delays.with_next.Goals as goal

pub returns-then-goes_on-clause-run : goal.returns-then-goes_on-clause-run
returns-then-goes_on-clause-run c = rw c.longer.ensures
    (longer-run c.args.trace.now c.args.rows.now c.args.delay c.in_ok-next.next _ _ c.requires.run (sym c.in_ok-next.ensures)
    c.with_receiver-one_receiver.ensures c.with_sender-one_sender.ensures (sym c.if-goes_on.ensures))
