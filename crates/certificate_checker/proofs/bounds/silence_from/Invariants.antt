use Rattle.std.proofs.Common.{◌≤◌}
use Rattle.certificate_checker.specs.LongestSilences.{IsLongestSilence}
use Rattle.certificate_checker.proofs.bounds.silence_from.Given as goal

-- the ticks from x on are scanned
abbrev pub invariant-loop-x : goal.invariant-loop-x
invariant-loop-x l = record {
  low : l.from ≤ l.x;
  high : l.x ≤ l.until;
  known : IsLongestSilence l.closings l.x l.longest;
}
