use Rattle.std.proofs.Common.{refl}
use Rattle.step_trace.proofs.PagePlaces.{alike-with_page}
use Rattle.step_trace.proofs.placed_steps.same_pages.Goals as goal

pub loop-q-preserved : goal.loop-q-preserved
loop-q-preserved c =
    let here = c.in-Some-Some.ensures in let there = c.in-Some-Some.ensures' in
    let same = c.if-not-is_same_page.ensures refl in (
      there.inside,
      alike-with_page c.args.one.now c.args.other.now
          c.in-Some-Some.here.now c.in-Some-Some.there.now c.loop-q.q c.loop-q.invariant.1 here there same,
    )
