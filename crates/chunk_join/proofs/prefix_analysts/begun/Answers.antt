use Rattle.std.proofs.Common.{refl}
use Rattle.chunk_join.proofs.prefix_analysts.begun.Goals as goal

pub returns-then-to-so_far-clause-before : goal.returns-then-to-so_far-clause-before
returns-then-to-so_far-clause-before c = λ set trace before sound. rw c.unit.ensures refl
