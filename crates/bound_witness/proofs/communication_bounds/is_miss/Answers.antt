use Rattle.std.proofs.Common.{◌≡◌, ◌+◌, refl, arith}
use Rattle.step_trace.specs.Ticks.{tick_of}
use Rattle.bound_witness.proofs.ReceiveSearches.{receive_of, miss_at}
use Rattle.bound_witness.proofs.communication_bounds.is_miss.Goals as goal

pub returns-in_default : goal.returns-in_default
returns-in_default c = (λ h. cc, λ m. absurd (c.in_default.ensures m.to m.message))

pub returns : goal.returns
returns c =
    let v = c.tick-first.ensures.value in
    let first : c.tick-first.result + 1 ≡ tick_of c.args.trace.now c.args.miss.sent + 1 = omega (arith, v) in (
      λ t. miss_at c.args.set c.args.trace.now c.args.miss.sent c.in-Some.to _ c.delivery.result c.args.miss.missed
          c.tick-first.ensures.timed c.in-Some.ensures c.delivery.ensures.exact first
          (c.is_receive_between.ensures.0 t),
      λ m. c.is_receive_between.ensures.1
          (receive_of c.args.set c.args.trace.now c.args.miss.sent c.in-Some.to _ c.delivery.result c.args.miss
          c.tick-first.ensures.timed c.in-Some.ensures c.delivery.ensures.exact first refl m),
    )
