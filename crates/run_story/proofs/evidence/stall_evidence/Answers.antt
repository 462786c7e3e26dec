use Rattle.run_story.proofs.EvidenceLists.{passed-next, stall_evidence-next}
use Rattle.run_story.proofs.evidence.stall_evidence.Goals as goal

pub loop-i-preserved : goal.loop-i-preserved
loop-i-preserved c = record {
  listed = rw (c.in_ok-push.ensures.items, c.with_delay.ensures, c.explained-delay.ensures, c.loop-i.invariant.listed)
      (stall_evidence-next c.args.trace.now c.args.stalls.now c.args.delays.now c.loop-i.i _ c.loop-i-test.true);
  within = c.first_from-from.ensures.high;
  passed = passed-next c.args.stalls.now c.args.delays.now c.args.rows.now c.loop-i.from
      c.first_from-from.result c.loop-i.i _ c.requires.stalls c.loop-i-test.true c.loop-i.invariant.passed c.first_from-from.ensures.before;
}
