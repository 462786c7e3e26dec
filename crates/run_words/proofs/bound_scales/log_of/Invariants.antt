use Rattle.std.proofs.Common.{◌≡◌, ◌<◌, ◌≤◌, ◌^◌}
use Rattle.run_words.specs.BoundScales.{log_below}
use Rattle.run_words.proofs.bound_scales.log_of.Given as goal

-- the greater exponents are tried
abbrev pub invariant-loop-exponent : goal.invariant-loop-exponent
invariant-loop-exponent l = record {
  power : l.power ≡ 2 ^ l.exponent;
  high : l.exponent ≤ 21;
  below : l.number < 2 ^ l.exponent;
  left : log_below l.exponent l.number ≡ log_below 21 l.number;
}

abbrev pub decreases-loop-exponent : goal.decreases-loop-exponent
decreases-loop-exponent l = l.exponent
