use Rattle.std.proofs.Common.{◌≡◌, ◌<◌, ◌≤◌, ℕ, get_or}
use Rattle.deciding_runs.specs.Peers.{after_phase, unheard}
use Rattle.deciding_runs.proofs.peers.end_phase.Given as goal

abbrev pub invariant-loop-peer : goal.invariant-loop-peer
invariant-loop-peer l = record {
  done : (k : ℕ) → k < l.peer-index → get_or l.peers k unheard ≡ after_phase l.round (get_or l.fn.peers k unheard);
  left : (k : ℕ) → l.peer-index ≤ k → get_or l.peers k unheard ≡ get_or l.fn.peers k unheard;
}
