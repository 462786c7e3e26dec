use Rattle.std.proofs.Common.{◌≢◌, ◌<◌, ℕ, map}
use Rattle.run_words.specs.Names.{name_at}
use Rattle.run_words.proofs.names.is_new.Given as goal

abbrev pub invariant-loop-j : goal.invariant-loop-j
invariant-loop-j l = (k : ℕ) → k < l.j → name_at (map (λ x. x.now) l.names) k ≢ name_at (map (λ x. x.now) l.names) l.i
