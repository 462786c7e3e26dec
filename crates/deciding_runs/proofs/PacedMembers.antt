-- Processors whose paces end their rounds as complete decide.
use Rattle.std.proofs.Common.{ℕ, List, arith}
use Rattle.deciding_runs.proofs.Common.{Step, Setup, IsSetup, deciding_round, HaveDecided, IsRun, node_at, HearOut, EndRoundsComplete}
use Rattle.deciding_runs.proofs.HeardOutRounds.{hearing-decides}
use Rattle.deciding_runs.proofs.NotedPeers.{IsHeardOut-ended}
use Rattle.deciding_runs.proofs.OrderedTakes.{TakesInOrder-all}

HearOut-complete : (c : Setup) (steps : List Step) (set first last : ℕ)
    → IsRun c steps → EndRoundsComplete c steps set first last → HearOut c steps set first last
HearOut-complete c steps set first last run end = record {
  within = end.within;
  size = end.size;
  numbered = end.numbered;
  order = λ p q mp mq. TakesInOrder-all c steps p q run.well_formed (end.takes p mp);
  rounds = λ p round mp low high. IsHeardOut-ended c steps set p round end.within
      (let first = end.numbered in omega arith) (end.rounds p round mp low high);
}

pub completing-decides : (c : Setup) (steps : List Step) (set first : ℕ)
    → IsSetup c → IsRun c steps → EndRoundsComplete c steps set first (deciding_round c first) → HaveDecided set (node_at c steps)
completing-decides c steps set first setup run end =
    hearing-decides c steps set first setup run (HearOut-complete c steps set first (deciding_round c first) run end)
