use Rattle.std.proofs.Common.{ℕ, ◌≡◌, ◌<◌, ◌≤◌, Some}
use Rattle.std.specs.Prelude.{slice_get}
use Rattle.step_trace.specs.declared.rows.Gap.{Gap}
use Rattle.chunk_join.proofs.finishes.begun_by.Given as goal

-- the silences from number `k` on begin later
abbrev pub invariant-loop-k : goal.invariant-loop-k
invariant-loop-k l = record {
  within : l.k ≤ l.count;
  later : (j : ℕ) (w : Gap) → l.k ≤ j → j < l.count → slice_get l.silent j ≡ Some w → l.g < w.from;
}
