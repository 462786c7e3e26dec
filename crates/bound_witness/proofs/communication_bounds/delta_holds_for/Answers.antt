use Rattle.std.proofs.Common.{◌≡◌, ◌+◌, arith, refl}
use Rattle.bound_witness.proofs.Common.{tick_of, step_at_within}
use Rattle.bound_witness.proofs.ReceiveSearches.{DeltaHoldsFor-none, DeltaHoldsFor-refuted}
use Rattle.bound_witness.proofs.communication_bounds.delta_holds_for.Goals as goal

pub returns-in_default : goal.returns-in_default
returns-in_default c = (λ _. record { on_time = λ r b m. absurd (c.in_default.ensures b m) }, λ _. refl)

pub tick-requires-clause-high : goal.tick-requires-clause-high
tick-requires-clause-high c = (step_at_within c.args.trace.now.steps c.args.s _ c.in-Some.ensures.sent).1

pub returns-in-None : goal.returns-in-None
returns-in-None c =
    let v = c.tick.ensures.value in
    let first : c.tick.result + c.args.d ≡ tick_of c.args.trace.now c.args.s + c.args.d = omega (arith, v) in (
      λ _. DeltaHoldsFor-none c.args.set c.args.trace.now c.args.s c.in-Some.to c.args.d _ c.delivery-delivered.result
          c.tick.ensures.timed c.in-Some.ensures c.delivery-delivered.ensures.exact first c.in-None.ensures,
      λ _. refl,
    )

pub returns-in-Some-last_receive_between : goal.returns-in-Some-last_receive_between
returns-in-Some-last_receive_between c =
    let v = c.tick.ensures.value in
    let first : c.tick.result + c.args.d ≡ tick_of c.args.trace.now c.args.s + c.args.d = omega (arith, v) in (
      λ h. cc,
      λ h. absurd (DeltaHoldsFor-refuted c.args.set c.args.trace.now c.args.s c.in-Some.to c.args.d _ c.delivery-delivered.result _
          c.tick.ensures.timed c.in-Some.ensures c.delivery-delivered.ensures.exact first
          c.in-Some-last_receive_between.ensures.receive h),
    )
