use Rattle.run_story.specs.Headlines.{is_between}
use Rattle.run_story.specs.MessageCounts.{is_lost, is_under_way}
use Rattle.run_story.proofs.CountedMessages.{count-next, few-next, last-next}
use Rattle.run_story.proofs.message_counts.counted.Goals as goal

pub loop-i-preserved : goal.loop-i-preserved
loop-i-preserved c = record {
  all = count-next (is_between c.args.set c.args.trace.now.steps)
      c.loop-i.i c.loop-i.counts.all _ _ c.is_between.ensures c.loop-i.invariant.all c.plus.ensures;
  lost = count-next (is_lost c.args.set c.args.trace.now)
      c.loop-i.i c.loop-i.counts.lost _ _ c.is_lost-lost.ensures c.loop-i.invariant.lost c.plus-in-loop-i.ensures;
  under_way = count-next (is_under_way c.args.set c.args.trace.now)
      c.loop-i.i c.loop-i.counts.under_way _ _ c.is_under_way.ensures c.loop-i.invariant.under_way c.plus-in-loop-i-2.ensures;
  last_lost = last-next (is_lost c.args.set c.args.trace.now)
      c.loop-i.i c.loop-i.counts.last_lost _ _ c.is_lost-lost.ensures c.loop-i.invariant.last_lost c.latest.ensures;
  few = few-next c.loop-i.i c.loop-i.counts.all _ c.is_between.result c.loop-i.invariant.few c.plus.ensures;
  few_lost = few-next c.loop-i.i c.loop-i.counts.lost _ c.is_lost-lost.result c.loop-i.invariant.few_lost c.plus-in-loop-i.ensures;
  few_under_way =
      few-next c.loop-i.i c.loop-i.counts.under_way _ c.is_under_way.result c.loop-i.invariant.few_under_way c.plus-in-loop-i-2.ensures;
}
