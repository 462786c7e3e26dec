use Rattle.std.proofs.Common.{◌≤◌, arith, refl, sym, subst}
use Rattle.bound_witness.proofs.Common.{tick_of, step_at_within}
use Rattle.bound_witness.proofs.processor_bounds.steps_within.Goals as goal

pub returns-then-is_step_between : goal.returns-then-is_step_between
returns-then-is_step_between c = (
  λ _. (let s = c.if-is_step_between.ensures.0 refl in record {
    tick = tick_of c.args.trace.now c.loop-no.no;
    from = s.from;
    until = s.before;
    step = record { place = c.loop-no.no; step = s.step; tick = refl };
  }),
  λ _. refl,
)

pub returns : goal.returns
returns c = (
  λ h. cc,
  λ s. absurd (c.loop-no.invariant s.step.place
      (let w = (step_at_within c.args.trace.now.steps s.step.place _ s.step.step.1).1 in omega arith) (record {
        step = s.step.step;
        from =
            subst (λ k. c.args.x ≤ k) (sym s.step.tick) s.from;
        before = (let q = s.step.tick in let u = s.until in omega (arith, q, u));
      })),
)
