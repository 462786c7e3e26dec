use Rattle.std.proofs.Common.{◌≡◌, ◌≤◌, drop}
use Rattle.run_words.specs.Clocks.{first_within, power_within, powers_of_ten}
use Rattle.run_words.proofs.clocks.power_within.Given as goal

-- all powers so far are above the number
abbrev pub invariant-loop-power : goal.invariant-loop-power
invariant-loop-power l = record {
  inside : l.power-index ≤ 19;
  left : first_within (drop l.power-index powers_of_ten) l.number ≡ power_within l.number;
}
