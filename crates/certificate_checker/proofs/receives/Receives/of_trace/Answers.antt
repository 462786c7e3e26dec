use Rattle.std.proofs.Common.{◌≡◌, ◌-◌, length, arith}
use Rattle.certificate_checker.proofs.receives.Receives.of_trace.Goals as goal

pub returns : goal.returns
returns c = let len = c.len.ensures.value in
    let end = c.loop-no.invariant.end in
    let e : c.loop-no.no - 1 ≡ length c.args.trace.now.steps = omega (arith, len, end, c.loop-no-test.false) in
    rw e at c.loop-no.invariant.known
