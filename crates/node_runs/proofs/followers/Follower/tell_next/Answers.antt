use Rattle.std.proofs.Common.{◌++◌, inl, inr, refl}
use Rattle.node_runs.specs.StandingLines.{told_standing, told_stop}
use Rattle.node_runs.proofs.ToldLines.{begun, begun_nothing, told_whole}
use Rattle.node_runs.proofs.followers.Follower.tell_next.Goals as goal

pub returns-in_err-stairs-clause-told : goal.returns-in_err-stairs-clause-told
returns-in_err-stairs-clause-told g c = rw c.stairs.ensures.writer (begun_nothing _ told_stop _ (inr refl))

pub returns-clause-told : goal.returns-clause-told
returns-clause-told g c =
    let stands = c.standing_of.ensures.standing c.args.self.now.analyst.set c.args.trace.now c.in_ok-stairs.ensures.stairs in
    rw (← c.stairs.ensures.writer) (begun _ (told_standing c.standing_of.result ++ c.args.news.now)
    g.W.Write.contents c.stairs.new.self.writer c.tell_standing.new.writer c.tell_standing.result
    (inl (record { standing = c.standing_of.result; stands = stands; told = refl }))
    c.tell_standing.ensures.told c.tell_standing.ensures.part c.tell_standing.ensures.cause)

pub returns-clause-whole : goal.returns-clause-whole
returns-clause-whole g c =
    let stands = c.standing_of.ensures.standing c.args.self.now.analyst.set c.args.trace.now c.in_ok-stairs.ensures.stairs in
    rw (← c.stairs.ensures.writer)
    (told_whole c.args.self.now.analyst.set c.args.trace.now c.standing_of.result c.args.news.now g.W.Write.contents
    c.stairs.new.self.writer c.tell_standing.new.writer c.tell_standing.result
    stands c.tell_standing.ensures.told)
