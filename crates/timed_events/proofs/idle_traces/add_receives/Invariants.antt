use Rattle.std.proofs.Common.{◌≡◌, ◌+◌, take, vec_len, vec_capacity}
use Rattle.timed_events.specs.IdleTraces.{IsGrown}
use Rattle.timed_events.proofs.idle_traces.add_receives.Given as goal

abbrev pub invariant-loop-idle : goal.invariant-loop-idle
invariant-loop-idle l = record {
  grown : IsGrown l.initial.events.items (take l.idle-index l.idles) l.events.items;
  len : vec_len l.events ≡ vec_len l.initial.events + l.idle-index;
  room : vec_capacity l.events ≡ vec_capacity l.initial.events;
}
