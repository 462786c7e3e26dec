use Rattle.std.proofs.Common.{◌≢◌, ◌<◌, ℕ, map}
use Rattle.run_words.specs.Names.{name_at}
use Rattle.run_words.proofs.lane_lists.named.Given as goal

-- no name so far is the part
abbrev pub invariant-loop-i : goal.invariant-loop-i
invariant-loop-i l = (k : ℕ) → k < l.i → name_at (map (λ x. x.now) l.names) k ≢ l.part
