use Rattle.step_trace.specs.Bounds.{DeltaHolds}
use Rattle.idle_laws.proofs.LeastBounds.{least-same}
use Rattle.idle_laws.proofs.SeenTraces.{delta-full, delta-plain, delta-sparse}
use Rattle.idle_laws.proofs.laws.delta_laws.Goals as goal

pub returns-clause-holds : goal.returns-clause-holds
returns-clause-holds c log limit set g d sparse full s f =
    (delta-full log limit sparse full s f set g d, delta-sparse log limit sparse full s f set g d)

pub returns-clause-least : goal.returns-clause-least
returns-clause-least c log limit set g d sparse full s f = (
  least-same (DeltaHolds set sparse g) (DeltaHolds set full g) d
      (delta-full log limit sparse full s f set g) (delta-sparse log limit sparse full s f set g),
  least-same (DeltaHolds set full g) (DeltaHolds set sparse g) d
      (delta-sparse log limit sparse full s f set g) (delta-full log limit sparse full s f set g),
)

pub returns-clause-plain : goal.returns-clause-plain
returns-clause-plain c log limit set g d sparse plain s l h = delta-plain log limit sparse plain s l set g d h
