use Rattle.std.proofs.Common.{refl}
use Rattle.node_runs.specs.StandingLines.{told_stop}
use Rattle.node_runs.proofs.ToldLines.{begun, untold}
use Rattle.node_runs.proofs.followers.Follower.stop.Goals as goal

pub returns-clause-told : goal.returns-clause-told
returns-clause-told g c =
    begun _ told_stop g.W.Write.contents c.args.self.now.writer c.tell_stop.new.writer c.tell_stop.result refl
    c.tell_stop.ensures.told (untold told_stop _ _ c.tell_stop.result c.tell_stop.ensures.part) c.tell_stop.ensures.cause
