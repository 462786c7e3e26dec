use Rattle.std.proofs.Common.{◌<◌, ◌∙◌, length, arith}
use Rattle.run_story.proofs.StepFacts.{is_taken-next}
use Rattle.run_story.proofs.messages.taken_messages.Goals as goal

pub loop-i-preserved : goal.loop-i-preserved
loop-i-preserved c = record {
  len = c.mark.ensures.len ∙ c.loop-i.invariant.len;
  each = λ s.
      let inside : c.loop-i.i < length c.args.trace.now.steps = omega (arith, c.loop-i-test.true, c.len-i-end.ensures.value) in
      is_taken-next c.args.trace.now.steps c.loop-i.i s _ _ inside
      (c.loop-i.invariant.each s) (rw c.ids_at.ensures.value at (c.mark.ensures.flags s));
}
