use Rattle.std.proofs.Common.{◌≤◌, below_more, refl, arith}
use Rattle.bound_witness.proofs.Common.{tick_of, DeltaHoldsFor, step_at_within}
use Rattle.bound_witness.proofs.communication_bounds.delta_holds.Goals as goal
use Rattle.bound_witness.proofs.communication_bounds.delta_holds.Goals.{else-g-tick-via-then-g-tick+else-not-delta_holds_for, else-g-tick-via-else-g-tick}

pub loop-s-preserved : goal.loop-s-preserved
loop-s-preserved c = below_more (λ s. 1 ≤ s → c.args.g ≤ tick_of c.args.trace.now s
    → DeltaHoldsFor c.args.set c.args.trace.now s c.args.d) _ c.loop-s.invariant (λ _ f. elim c.else-g-tick.branch [
      | else-g-tick-via-then-g-tick+else-not-delta_holds_for w ↦ w.if-not-delta_holds_for.ensures.0 refl
      | else-g-tick-via-else-g-tick w ↦ absurd (let n = w.if-g-tick.false in let v = c.tick.ensures.value in omega (arith, n, v, f))
    ])

pub returns : goal.returns
returns c = (
  λ _. record {
    each = λ s l. record {
      on_time = λ r b m e f.
          let w = step_at_within c.args.trace.now.steps s _ m.sent in
          (c.loop-s.invariant s (omega (arith, w.1, w.0)) (omega (arith, w.1, w.0)) l).on_time r b m e f;
    };
  },
  λ _. refl,
)
