use Rattle.std.proofs.Common.{◌≡◌, length, take}
use Rattle.std.specs.Prelude.{fold}
use Rattle.deciding_runs.specs.Paces.{heard_message}
use Rattle.deciding_runs.proofs.paces.hear_all.Given as goal

abbrev pub invariant-loop-id : goal.invariant-loop-id
invariant-loop-id l = record {
  heard : l.peers ≡ fold (heard_message l.world.trace.steps l.p) l.fn.peers (take l.id-index l.ids);
  long : length l.peers ≡ length l.fn.peers;
}
