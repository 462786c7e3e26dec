use Rattle.std.proofs.Common.{ℕ, ◌≡◌, ◌<◌, ◌≤◌, Some, length, take}
use Rattle.std.specs.Prelude.{slice_get}
use Rattle.run_story.specs.declared.delays.Delay.{Delay}
use Rattle.run_story.specs.declared.stalls.Stall.{Stall}
use Rattle.run_story.specs.Evidence.{stall_evidence}
use Rattle.run_story.proofs.evidence.stall_evidence.Given as goal

abbrev pub invariant-loop-i : goal.invariant-loop-i
invariant-loop-i l = record {
  listed : l.list.items ≡ stall_evidence l.trace (take l.i l.stalls) l.delays;
  within : l.from ≤ length l.delays;
  passed : (k j : ℕ) (d : Delay) (s : Stall) → k < l.from
      → slice_get l.delays k ≡ Some d → l.i ≤ j → slice_get l.stalls j ≡ Some s → d.last < s.first;
}
