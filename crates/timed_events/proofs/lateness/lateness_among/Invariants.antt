use Rattle.std.proofs.Common.{◌≡◌, ◌≤◌, take}
use Rattle.timed_events.specs.Lateness.{lateness_among}
use Rattle.timed_events.proofs.lateness.lateness_among.Given as goal

abbrev pub invariant-loop-hop : goal.invariant-loop-hop
invariant-loop-hop l = record {
  is : l.lateness ≡ lateness_among l.events (take l.hop-index l.hops);
  few : l.lateness.messages ≤ l.hop-index;
}
