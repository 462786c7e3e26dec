use Rattle.std.proofs.Common.{◌∙◌}
use Rattle.timed_events.proofs.WalkBriefs.{none-of_brief, one-of_brief}
use Rattle.timed_events.proofs.CausalWalks.{messages-read}
use Rattle.timed_events.proofs.walk_briefs.messages_of.Goals as goal

pub returns-in-0 : goal.returns-in-0
returns-in-0 c = none-of_brief c.args.events.now c.args.briefs.now c.args.place _ c.requires.briefs c.requires.inside c.in-0.is

pub returns-in-1 : goal.returns-in-1
returns-in-1 c = c.requires.one
    ∙ one-of_brief c.args.events.now c.args.briefs.now c.args.place _ c.requires.briefs c.requires.inside c.in-1.is

pub returns-in_default : goal.returns-in_default
returns-in_default c = messages-read c.args.events.now
    c.args.place c.index-events-place.result c.messages.result.now c.requires.inside c.index-events-place.is c.messages.ensures
