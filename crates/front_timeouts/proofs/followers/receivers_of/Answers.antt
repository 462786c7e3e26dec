use Rattle.std.proofs.Common.{ℕ, ◌≡◌, ◌+◌, length, arith, subst}
use Rattle.front_timeouts.specs.Followers.{AreReceivers}
use Rattle.front_timeouts.proofs.ListedFollowers.{AreReceivers-none, receivers_within}
use Rattle.front_timeouts.proofs.followers.receivers_of.Goals as goal

pub loop-no-init : goal.loop-no-init
loop-no-init c = record {
  low = omega arith;
  receivers =
      AreReceivers-none c.args.trace.now.steps c.args.p c.empty-receivers.result c.empty-receivers.ensures;
}

pub returns-clause-receivers : goal.returns-clause-receivers
returns-clause-receivers c =
    let end : c.loop-no.no ≡ length c.args.trace.now.steps + 1 =
    omega (arith, c.loop-no-test.false, c.len.ensures.value, c.loop-no.auto.no-end (omega arith)) in
    subst (λ (n : ℕ). AreReceivers c.args.trace.now.steps c.args.p n c.loop-no.receivers) end c.loop-no.invariant.receivers

pub returns-clause-within : goal.returns-clause-within
returns-clause-within c = receivers_within c.args.trace.now.config
    c.args.trace.now.steps c.args.p c.loop-no.no c.loop-no.receivers c.len.ensures.sound c.loop-no.invariant.receivers
