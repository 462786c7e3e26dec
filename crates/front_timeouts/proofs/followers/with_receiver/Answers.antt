use Rattle.std.proofs.Common.{sym, ◌∙◌}
use Rattle.std.proofs.lemmas.Option.{none-some}
use Rattle.front_timeouts.proofs.ListedFollowers.{AreReceivers-more, AreReceivers-same}
use Rattle.front_timeouts.proofs.followers.with_receiver.Goals as goal

pub returns-in-Some : goal.returns-in-Some
returns-in-Some c = AreReceivers-more c.args.trace.now.steps c.args.p c.in-Some.q c.args.no c.args.receivers
    c.with.result ((c.sent_to.ensures.to c.in-Some.q).0 c.in-Some.is) c.with.ensures.added c.with.ensures.others
    c.requires.before

pub returns-in-None : goal.returns-in-None
returns-in-None c = AreReceivers-same c.args.trace.now.steps c.args.p c.args.no c.args.receivers
    (λ q sends. none-some q (sym c.in-None.is ∙ (c.sent_to.ensures.to q).1 sends)) c.requires.before
