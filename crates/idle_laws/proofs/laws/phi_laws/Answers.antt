use Rattle.step_trace.specs.Bounds.{PhiHolds}
use Rattle.idle_laws.proofs.LeastBounds.{least-above, least-back, least-between, phi-greater}
use Rattle.idle_laws.proofs.SeenTraces.{phi-full, phi-plain, phi-sparse}
use Rattle.idle_laws.proofs.laws.phi_laws.Goals as goal

pub returns-clause-holds : goal.returns-clause-holds
returns-clause-holds c log limit set g e sparse full s f one far =
    (phi-full log limit sparse full s f set g e, phi-sparse log limit sparse full s f set g e one far)

pub returns-clause-above : goal.returns-clause-above
returns-clause-above c log limit set g e sparse full s f one far =
    let P = PhiHolds set sparse g in
    let Q = PhiHolds set full g in
    let to = phi-full log limit sparse full s f set g in (
      least-above P Q limit to (λ k. phi-sparse log limit sparse full s f set g k one)
          (phi-greater set full g) e far,
      least-back P Q limit to (λ k. phi-sparse log limit sparse full s f set g k one)
          (phi-greater set full g) e far,
    )

pub returns-clause-between : goal.returns-clause-between
returns-clause-between c log limit set g f e sparse full s u one = least-between (PhiHolds set sparse g) (PhiHolds set full g) limit
    (phi-full log limit sparse full s u set g) (λ k. phi-sparse log limit sparse full s u set g k one) (phi-greater set full g) f e

pub returns-clause-plain : goal.returns-clause-plain
returns-clause-plain c log limit set g f sparse plain s l h = phi-plain log limit sparse plain s l set g f h
