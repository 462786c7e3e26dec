use Rattle.std.proofs.Common.{ℕ, ◌≡◌, ◌≤◌, ◌*◌, ◌-◌, ◌^◌, [], ◌∷◌, min, drop, length}
use Rattle.decision_claims.specs.Formulas.{Fits, divisors, nothing, value_from}
use Rattle.decision_claims.specs.NearValues.{tally}
use Rattle.decision_claims.proofs.values.value_on.Given as goal

-- what was read, followed by the parts from here on, is the whole up to each cap
abbrev pub invariant-loop-part : goal.invariant-loop-part
invariant-loop-part l = record {
  inside : l.part-index ≤ length l.rest;
  fits : Fits (length l.around.items) (drop l.part-index l.rest);
  near : (cap : ℕ) → cap * divisors (l.fn.first ∷ l.rest) ≤ 2 ^ 64 - 1 → (cap * divisors (drop l.part-index l.rest) ≤ 2 ^ 64 - 1)
      × (min (value_from l.words (tally l.here l.around.items) (drop l.part-index l.rest)) cap
      ≡ min (value_from l.words (tally nothing []) (l.fn.first ∷ l.rest)) cap);
}
