use Rattle.std.proofs.Common.{arith}
use Rattle.certificate_checker.proofs.SilenceSteps.{AreSilences-after_all}
use Rattle.certificate_checker.proofs.silences.silences.Goals as goal

pub returns : goal.returns
returns c =
    let len = c.len.ensures.value in
    let all = c.loop-no-test.false in
    AreSilences-after_all c.args.set c.args.trace.now c.loop-no.no c.loop-no.found.items (omega (arith, len, all)) c.loop-no.invariant
