use Rattle.std.proofs.Common.{◌≡◌, ◌++◌, map, take, drop}
use Rattle.log_windows.specs.Numbers.{line_in}
use Rattle.log_windows.proofs.numbers.lines_in.Given as goal

abbrev pub invariant-loop-line : goal.invariant-loop-line
invariant-loop-line l = l.line-items ≡ map (line_in l.places) (take l.line-index l.fn.lines) ++ drop l.line-index l.fn.lines
