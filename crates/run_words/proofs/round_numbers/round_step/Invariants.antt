use Rattle.std.proofs.Common.{◌≡◌, ◌≤◌, drop}
use Rattle.run_words.specs.RoundNumbers.{first_step, round_numbers, round_step}
use Rattle.run_words.proofs.round_numbers.round_step.Given as goal

-- none of the steps so far is the one
abbrev pub invariant-loop-step : goal.invariant-loop-step
invariant-loop-step l = record {
  inside : l.step-index ≤ 19;
  left : first_step (drop l.step-index round_numbers) l.limit l.most ≡ round_step l.limit l.most;
}
