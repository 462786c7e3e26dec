use Rattle.std.proofs.Common.{sym, arith}
use Rattle.front_timeouts.proofs.ListedFollowers.{destination}
use Rattle.front_timeouts.proofs.followers.sent_to.Goals as goal

pub returns-in-Send-clause-low : goal.returns-in-Send-clause-low
returns-in-Send-clause-low c =
    (destination c.args.trace.now.config c.args.trace.now.steps c.args.no c.in_ok-step.step.now c.in-Send.to
    c.step.ensures.sound (sym (rw c.in_ok-step.was at c.step.ensures.value)) c.in-Send.is).0

pub returns-in-Send-clause-high : goal.returns-in-Send-clause-high
returns-in-Send-clause-high c =
    let within = (destination c.args.trace.now.config c.args.trace.now.steps c.args.no
    c.in_ok-step.step.now c.in-Send.to c.step.ensures.sound (sym (rw c.in_ok-step.was at c.step.ensures.value)) c.in-Send.is).1 in
    let most = (rw c.config.ensures at c.n-n.ensures.sound).most in
    omega (arith, within, most)
