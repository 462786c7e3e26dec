use Rattle.std.proofs.Common.{◌<◌, length, refl, arith}
use Rattle.run_story.proofs.StepFacts.{is_taken-next}
use Rattle.run_story.proofs.headlines.is_taken.Goals as goal
use Rattle.run_story.proofs.headlines.is_taken.Goals.{then-taken, else-taken}

pub loop-i-preserved : goal.loop-i-preserved
loop-i-preserved c =
    let inside : c.loop-i.i < length c.args.trace.now.steps = omega (arith, c.loop-i-test.true, c.len-i-end.ensures.value) in
    elim c.if-taken.branch [
      | then-taken w ↦ rw w.taken-is (is_taken-next c.args.trace.now.steps c.loop-i.i c.args.sent _ c.loop-i.taken inside c.loop-i.invariant
          (let t = w.if-taken.true in rw t refl))
      | else-taken w ↦ rw w.taken-is (is_taken-next c.args.trace.now.steps c.loop-i.i c.args.sent _ c.loop-i.taken inside c.loop-i.invariant
          (let f = w.if-taken.false in rw f w.takes-taken.ensures))
    ]
