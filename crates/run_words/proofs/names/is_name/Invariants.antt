use Rattle.std.proofs.Common.{◌≡◌, ◌<◌, ℕ, false}
use Rattle.run_words.specs.Names.{is_refused_at}
use Rattle.run_words.proofs.names.is_name.Given as goal

abbrev pub invariant-loop-i : goal.invariant-loop-i
invariant-loop-i l = (k : ℕ) → k < l.i → is_refused_at l.name k ≡ false
