use Rattle.std.proofs.Common.{◌≡◌, ◌++◌, take}
use Rattle.step_trace.specs.TickLists.{all_ticks}
use Rattle.step_trace.proofs.tick_lists.TickList.extend.Given as goal

-- the ticks so far are behind those that were there
abbrev pub invariant-loop-tick : goal.invariant-loop-tick
invariant-loop-tick l = all_ticks l.self ≡ all_ticks l.fn.self ++ take l.tick-index l.ticks
