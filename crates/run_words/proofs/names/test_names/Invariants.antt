use Rattle.std.proofs.Common.{◌<◌, ℕ, map}
use Rattle.run_words.specs.Names.{IsName, IsNew, name_at}
use Rattle.run_words.proofs.names.test_names.Given as goal

abbrev pub invariant-loop-i : goal.invariant-loop-i
invariant-loop-i l = record {
  each : (k : ℕ) → k < l.i → IsName (name_at (map (λ x. x.now) l.names) k);
  different : (k : ℕ) → k < l.i → IsNew (map (λ x. x.now) l.names) k;
}
