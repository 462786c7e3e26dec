use Rattle.timed_events.proofs.WalkBriefs.{receiver-of_brief}
use Rattle.timed_events.proofs.walk_briefs.receiver_at.Goals as goal

pub returns : goal.returns
returns c = λ p most h.
    rw c.from.ensures (receiver-of_brief c.args.events.now c.args.briefs.now c.args.place _ c.requires.briefs c.requires.inside p most h)
