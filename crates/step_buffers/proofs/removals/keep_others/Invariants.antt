use Rattle.std.proofs.Common.{◌≡◌, ◌≤◌, ◌++◌, filter, length, not, take, drop}
use Rattle.step_buffers.specs.Moves.{is_in}
use Rattle.step_buffers.proofs.removals.keep_others.Given as goal

abbrev pub invariant-loop-at : goal.invariant-loop-at
invariant-loop-at l = record {
  length : length l.part ≡ length l.initial.part;
  kept : l.kept ≤ l.at;
  left : take l.kept l.part ++ filter (λ s. not (is_in l.ids s)) (drop l.at l.part) ≡ filter (λ s. not (is_in l.ids s)) l.initial.part;
}
