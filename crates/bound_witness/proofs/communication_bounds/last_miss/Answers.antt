use Rattle.std.proofs.Common.{◌≡◌, ◌+◌, arith, subst}
use Rattle.bound_witness.proofs.Common.{tick_of, IsMessage, step_at_within}
use Rattle.bound_witness.proofs.ReceiveSearches.{HasNoMiss-from_receives, IsLastMiss-from_receives}
use Rattle.bound_witness.proofs.communication_bounds.last_miss.Goals as goal

pub returns-in_default : goal.returns-in_default
returns-in_default c = record {
  none = λ m q i. c.in_default.ensures i.to (subst (λ s. IsMessage c.args.set c.args.trace.now.steps s i.to) q i.message);
}

pub tick-first-requires-clause-high : goal.tick-first-requires-clause-high
tick-first-requires-clause-high c = (step_at_within c.args.trace.now.steps c.args.sent _ c.in-Some.ensures.sent).1

pub returns-in_err-missed : goal.returns-in_err-missed
returns-in_err-missed c =
    let v = c.tick-first.ensures.value in
    let first : c.tick-first.result + 1 ≡ tick_of c.args.trace.now c.args.sent + 1 = omega (arith, v) in
    rw c.from_residual.ensures (HasNoMiss-from_receives c.args.set c.args.trace.now c.args.sent c.in-Some.to _ c.delivery-delivered.result
    c.tick-first.ensures.timed c.in-Some.ensures c.delivery-delivered.ensures.exact first c.in_err-missed.ensures)

pub returns : goal.returns
returns c =
    let v = c.tick-first.ensures.value in
    let first : c.tick-first.result + 1 ≡ tick_of c.args.trace.now c.args.sent + 1 = omega (arith, v) in
    IsLastMiss-from_receives c.args.set c.args.trace.now c.args.sent c.in-Some.to _ c.delivery-delivered.result
    c.in_ok-missed.missed
    c.tick-first.ensures.timed c.in-Some.ensures c.delivery-delivered.ensures.exact first c.in_ok-missed.ensures
