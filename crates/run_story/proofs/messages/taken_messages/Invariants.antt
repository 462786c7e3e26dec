use Rattle.std.proofs.Common.{◌≡◌, ◌+◌, ℕ, length, take}
use Rattle.step_trace.specs.PushRefusals.{is_taken}
use Rattle.run_story.specs.Messages.{flag_at}
use Rattle.run_story.proofs.messages.taken_messages.Given as goal

abbrev pub invariant-loop-i : goal.invariant-loop-i
invariant-loop-i l = record {
  len : length l.taken.items ≡ length l.trace.steps + 1;
  each : (s : ℕ) → flag_at l.taken.items s ≡ is_taken (take l.i l.trace.steps) s;
}
