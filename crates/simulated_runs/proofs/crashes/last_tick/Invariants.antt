use Rattle.std.proofs.Common.{◌≡◌, ◌-◌, ◌^◌, ◌==◌, if◌then◌else◌, fold, min, take}
use Rattle.simulated_runs.proofs.crashes.last_tick.Given as goal

abbrev pub invariant-loop-crash : goal.invariant-loop-crash
invariant-loop-crash l = l.last ≡ fold (λ last crash. if crash.proc == l.p then min last crash.tick else last)
    (2 ^ 64 - 1) (take l.crash-index l.crashes)
