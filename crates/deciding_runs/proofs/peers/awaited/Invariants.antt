use Rattle.std.proofs.Common.{◌≡◌, ◌≤◌, ◌-◌}
use Rattle.std.specs.Prelude.{count_by}
use Rattle.std.specs.List.{range_with_len}
use Rattle.deciding_runs.specs.Peers.{is_awaited}
use Rattle.deciding_runs.proofs.peers.awaited.Given as goal

abbrev pub invariant-loop-q : goal.invariant-loop-q
invariant-loop-q l = record {
  count : l.awaited ≡ count_by (is_awaited l.config l.node l.round l.p l.peers) (range_with_len 1 (l.q - 1));
  low : l.awaited ≤ l.q - 1;
}
