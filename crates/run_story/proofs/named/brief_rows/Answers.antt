use Rattle.std.proofs.Common.{sym}
use Rattle.run_story.proofs.NamedPlaces.{brief-kept, brief-pushed}
use Rattle.run_story.proofs.named.brief_rows.Goals as goal
use Rattle.run_story.proofs.named.brief_rows.Goals.{then-begins+in_ok-push, else-begins}

pub loop-k-preserved : goal.loop-k-preserved
loop-k-preserved c = elim c.if-begins.branch [
  | then-begins+in_ok-push w ↦ rw w.rows-is (brief-pushed c.args.named.now c.loop-k.k c.loop-k.rows.items _
      (sym w.if-begins.ensures) c.loop-k.invariant w.in_ok-push.ensures.items)
  | else-begins w ↦ rw w.rows-is (brief-kept c.args.named.now c.loop-k.k c.loop-k.rows.items (sym w.if-begins.ensures) c.loop-k.invariant)
]
