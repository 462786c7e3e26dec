use Rattle.suffix_staircase.specs.NextSteps.{IsLatest}
use Rattle.suffix_staircase.proofs.next_steps.latest_member.Given as goal

abbrev pub invariant-loop-p : goal.invariant-loop-p
invariant-loop-p l = IsLatest l.set l.next_steps l.p l.latest
