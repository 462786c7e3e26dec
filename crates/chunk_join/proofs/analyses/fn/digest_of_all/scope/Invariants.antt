use Rattle.std.specs.Prelude.{◌≡◌, ◌+◌, ◌≤◌, vec_len, vec_capacity}
use Rattle.chunk_join.specs.Analyses.{ArePromised}
use Rattle.chunk_join.proofs.analyses.fn.digest_of_all.scope.Given as goal

abbrev pub invariant-loop-worker : goal.invariant-loop-worker
invariant-loop-worker g l = (vec_len l.threads + 1 ≡ l.worker)
    × (l.workers ≤ vec_capacity l.threads) × ArePromised l.set.now l.trace.now l.gate.now l.workers l.threads.items
