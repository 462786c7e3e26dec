use Rattle.std.proofs.Common.{Fits, w64, ℕ, ◌<◌, ◌≤◌, ◌^◌, ◌+◌, ◌-◌, arith}
use Rattle.suffix_staircase.proofs.KeptStretches.{kept_within}
use Rattle.suffix_staircase.proofs.StretchRows.{no_row, row_of_place}
use Rattle.suffix_staircase.proofs.stretches.row_at.Goals as goal

counted_fits : (total reach : ℕ) → 1 ≤ reach → total < 2 ^ 64 → Fits w64 (total - reach + 1)
counted_fits total reach low fits = omega arith

pub returns-then-i-stretches : goal.returns-then-i-stretches
returns-then-i-stretches c = no_row c.args.stretches.now c.args.i c.requires (omega arith)

pub overflow_sub-result : goal.overflow_sub-result
overflow_sub-result c = rw c.height.ensures (kept_within c.args.stretches.now c.args.i _ c.requires (omega arith)).1

pub overflow_add-result : goal.overflow_add-result
overflow_add-result c =
    counted_fits c.height.result _
    (kept_within c.args.stretches.now c.args.i _ c.requires (omega arith)).0 c.height.type_inv

pub returns : goal.returns
returns c = rw c.height.ensures (row_of_place c.args.stretches.now c.args.i _ c.requires (omega arith))
