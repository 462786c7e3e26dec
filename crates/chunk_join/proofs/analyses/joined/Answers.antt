use Rattle.std.proofs.Common.{rules, subst, sym, ◌≡◌, ◌∷◌}
use Rattle.chunk_join.proofs.JoinedShares.{AreJoined, AreJoined-none, AreJoined-more, AreJoined-all}
use Rattle.chunk_join.proofs.WorkersLetIn.{AreHeard, AreHeard-none, AreHeard-more, AreHeard-all}
use Rattle.chunk_join.proofs.analyses.joined.Goals as goal

pub loop-thread-init : goal.loop-thread-init
loop-thread-init g c =
    let e : c.into_iter-thread-iterator.result.rest.items ≡ c.args.threads.items = search rules in (
      subst (AreJoined c.args.threads.items _) (sym e) (AreJoined-none c.args.threads.items c.unit.result c.unit.ensures),
      subst (AreHeard g.G.Gate.lets c.args.threads.items _) (sym e) (AreHeard-none g.G.Gate.lets c.args.threads.items c.unit.result),
    )

pub loop-thread-preserved : goal.loop-thread-preserved
loop-thread-preserved g c =
    let e : c.loop-thread.thread-iterator.rest.items ≡ c.in-Some.thread ∷ c.next.new.self.rest.items = search rules in
    let was = subst (AreJoined c.args.threads.items c.loop-thread.all) e c.loop-thread.invariant.0 in
    let heard = subst (AreHeard g.G.Gate.lets c.args.threads.items c.loop-thread.all) e c.loop-thread.invariant.1 in (
      AreJoined-more c.args.threads.items c.loop-thread.all
          c.join.result c.both-all.result c.in-Some.thread c.next.new.self.rest.items was c.join.ensures.0 c.both-all.ensures.digest,
      AreHeard-more g.G.Gate.lets c.args.threads.items c.loop-thread.all c.join.result c.both-all.result
          c.in-Some.thread c.next.new.self.rest.items heard c.join.ensures.1 c.both-all.ensures.ok c.both-all.ensures.cause,
    )

pub returns-clause-digest : goal.returns-clause-digest
returns-clause-digest g c =
    AreJoined-all c.args.threads.items c.loop-thread.all c.loop-thread.thread-iterator.rest.items c.loop-thread.invariant.0 (search rules)

pub returns-clause-entered : goal.returns-clause-entered
returns-clause-entered g c = AreHeard-all g.G.Gate.lets
    c.args.threads.items c.loop-thread.all c.loop-thread.thread-iterator.rest.items c.loop-thread.invariant.1 (search rules)

pub returns-clause-held : goal.returns-clause-held
returns-clause-held g c = c.loop-thread.invariant.1.held
