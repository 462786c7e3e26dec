use Rattle.std.proofs.Common.{◌≡◌, ◌≤◌, ◌*◌, take, sum_by}
use Rattle.run_words.specs.Labels.{byte_width}
use Rattle.run_words.proofs.labels.name_width.Given as goal

-- the width of the bytes so far, at most 120 for each of them
abbrev pub invariant-loop-byte : goal.invariant-loop-byte
invariant-loop-byte l = (l.width ≡ sum_by byte_width (take l.byte-index l.byte-items)) × (l.width ≤ 120 * l.byte-index)
