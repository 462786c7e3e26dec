use Rattle.std.proofs.Common.{◌≡◌, ℕ, All, false, length}
use Rattle.step_trace.specs.Processors.{has_proc}
use Rattle.round_model.proofs.heard_sets.empty_table.Given as goal

abbrev pub invariant-loop : goal.invariant-loop
invariant-loop l = record {
  processors : length l.sets.items ≡ l.counter;
  rounds : All (λ v. length v.items ≡ l.rounds) l.sets.items;
  empty : All (λ v. All (λ set. (p : ℕ) → has_proc set p ≡ false) v.items) l.sets.items;
}
