use Rattle.std.proofs.Common.{arith}
use Rattle.judged_runs.proofs.prefixes.beginning.Goals as goal

pub returns : goal.returns
returns c = λ set trace decisions due. record {
  before = record { each = λ t cut l. absurd (omega (arith, l)) };
  order = omega arith;
  old = record { each = λ t z cut l sound at feasible begun. (let start = feasible.start in absurd (omega (arith, start, begun))) };
}
