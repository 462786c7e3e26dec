use Rattle.std.proofs.Common.{ℕ, ◌≡◌, ◌<◌, length, take}
use Rattle.std.specs.List.{list_any}
use Rattle.run_story.specs.Messages.{flag_at}
use Rattle.run_story.specs.Evidence.{has_delay}
use Rattle.run_story.proofs.evidence.delay_flags.Given as goal

abbrev pub invariant-loop-i : goal.invariant-loop-i
invariant-loop-i l = record {
  len : length l.flags.items ≡ l.rows;
  each : (k : ℕ) → k < l.rows → flag_at l.flags.items k ≡ list_any (has_delay k) (take l.i l.list);
}
