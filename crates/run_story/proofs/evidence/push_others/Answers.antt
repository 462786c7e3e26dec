use Rattle.run_story.proofs.EvidenceLists.{flag_of_delay, others-kept, others-pushed}
use Rattle.run_story.proofs.evidence.push_others.Goals as goal
use Rattle.run_story.proofs.evidence.push_others.Goals.{then-not-flag_at+in_ok-push, else-not-flag_at}

pub loop-i-preserved : goal.loop-i-preserved
loop-i-preserved c = elim c.if-not-flag_at.branch [
  | then-not-flag_at+in_ok-push w ↦ rw w.list-is
      (others-pushed c.args.list.now.items c.args.delays.now c.loop-i.i _ c.loop-i.list.items _ c.loop-i-test.true c.loop-i.invariant
      (flag_of_delay c.args.rows.now c.args.delays.now c.args.list.now.items c.deref.result.now c.in_ok-has_delay.has_delay.items
      c.deref-in-loop-i.result.now c.loop-i.i _ _ c.requires c.in_ok-has_delay.ensures c.deref.ensures.value
      c.deref-in-loop-i.ensures.value c.loop-i-test.true w.if-not-flag_at.ensures) (rw w.alone.ensures at w.in_ok-push.ensures.items))
  | else-not-flag_at w ↦ rw w.list-is (others-kept c.args.list.now.items c.args.delays.now
      c.loop-i.i _ c.loop-i.list.items c.loop-i-test.true c.loop-i.invariant (flag_of_delay c.args.rows.now c.args.delays.now
      c.args.list.now.items c.deref.result.now c.in_ok-has_delay.has_delay.items c.deref-in-loop-i.result.now c.loop-i.i _ _ c.requires
      c.in_ok-has_delay.ensures c.deref.ensures.value c.deref-in-loop-i.ensures.value c.loop-i-test.true w.if-not-flag_at.ensures))
]
