use Rattle.step_trace.specs.Processors.{has_proc}
use Rattle.run_story.proofs.CountedMessages.{count-next, few-next}
use Rattle.run_story.proofs.losses.count_members.Goals as goal

pub loop-k-preserved : goal.loop-k-preserved
loop-k-preserved c = record {
  count = count-next (has_proc c.args.set) c.loop-k.k c.loop-k.count _ _ c.contains.ensures c.loop-k.invariant.count c.plus-count.ensures;
  few = few-next c.loop-k.k c.loop-k.count _ c.contains.result c.loop-k.invariant.few c.plus-count.ensures;
}
