use Rattle.std.proofs.Common.{ℕ, ◌≡◌, ◌+◌, length}
use Rattle.certificate_checker.proofs.Common.{PutsEnds, IsSilence}
use Rattle.certificate_checker.proofs.ClosedTicks.{AreBefore}
use Rattle.certificate_checker.proofs.silences.Silence.put_ends.Given as goal

-- the ends of the silences before `from` are noted, and so many ticks are before it
abbrev pub invariant-loop-tick : goal.invariant-loop-tick
invariant-loop-tick l = record {
  long : length l.ends.items ≡ l.trace.last + 1;
  before : (p : ℕ) → IsSilence l.trace p l.self → AreBefore l.self l.tick-index l.from;
  puts : (p : ℕ) → IsSilence l.trace p l.self → PutsEnds l.trace p l.from l.fn.ends.items l.ends.items;
}
