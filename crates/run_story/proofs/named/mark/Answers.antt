use Rattle.std.proofs.Common.{◌∙◌, length}
use Rattle.run_story.proofs.NamedPlaces.{named-next}
use Rattle.run_story.proofs.named.mark.Goals as goal

pub returns : goal.returns
returns c = named-next (length c.args.named.now.items) c.args.place c.args.list.now _ c.args.named.now.items
    c.mark_gap.new.named.items c.mark_miss.new.named.items c.requires.place (c.mark_miss.ensures.len ∙ c.mark_gap.ensures.len)
    c.requires.before c.mark_gap.ensures.each (λ k l. c.mark_miss.ensures.each k (rw c.mark_gap.ensures.len l))
