use Rattle.std.proofs.Common.{◌≡◌, ◌++◌, ◌+◌, map, take, vec_len, vec_capacity}
use Rattle.timed_events.proofs.idle_traces.with_idle_ticks.Given as goal

abbrev pub invariant-loop-idle : goal.invariant-loop-idle
invariant-loop-idle l = (l.all.items ≡ l.initial.all.items ++ map (λ x. x.tick) (take l.idle-index l.idles))
    × (vec_len l.all ≡ vec_len l.initial.all + l.idle-index) × (vec_capacity l.all ≡ vec_capacity l.initial.all)
