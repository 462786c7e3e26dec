use Rattle.picture_marks.specs.Pictures.{shown_miss}
use Rattle.picture_marks.proofs.GatheredLists.{gathered_more}
use Rattle.picture_marks.proofs.pictures.misses.Goals as goal

pub loop-i-preserved : goal.loop-i-preserved
loop-i-preserved c = gathered_more (shown_miss c.args.trace.now c.args.window c.args.lanes c.args.rows.now)
    c.loop-i.i _ _ _ c.loop-i.invariant c.in_ok-push_some.ensures.pushed c.shown_miss.ensures
