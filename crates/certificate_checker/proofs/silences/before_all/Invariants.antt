use Rattle.std.proofs.Common.{ℕ, ◌≡◌, ◌+◌, ◌≤◌, length, Some}
use Rattle.std.specs.Prelude.{slice_get}
use Rattle.certificate_checker.proofs.Common.{Silence, KnowsSilence}
use Rattle.certificate_checker.proofs.silences.before_all.Given as goal

-- this many silences were added
abbrev pub invariant-loop : goal.invariant-loop
invariant-loop l = record {
  end : l.counter ≤ l.trace.config.n + 1;
  long : length l.found.items ≡ l.counter;
  each : (p : ℕ) (s : Silence) → slice_get l.found.items p ≡ Some s → KnowsSilence l.trace p 1 s;
}
