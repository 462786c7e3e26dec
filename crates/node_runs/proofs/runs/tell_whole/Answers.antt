use Rattle.std.proofs.Common.{sym, subst}
use Rattle.locked_recorder.specs.Prefixes.{IsRunOf}
use Rattle.node_runs.proofs.ToldLines.{told_end}
use Rattle.node_runs.proofs.runs.tell_whole.Goals as goal

pub returns-in-Some : goal.returns-in-Some
returns-in-Some g c = λ s run.
    rw c.in-Some.is (told_end g.E.Write.contents s c.trace.result.now c.in-Some.follower c.tell.new.self
    (subst (λ t. IsRunOf s t) (sym c.trace.ensures.value) run) c.tell.ensures.set c.tell.ensures.told)
