use Rattle.std.proofs.Common.{◌≡◌, take}
use Rattle.step_trace.specs.PushRefusals.{is_taken}
use Rattle.run_story.proofs.headlines.is_taken.Given as goal

abbrev pub invariant-loop-i : goal.invariant-loop-i
invariant-loop-i l = l.taken ≡ is_taken (take l.i l.trace.steps) l.sent
