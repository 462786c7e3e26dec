use Rattle.std.proofs.Common.{◌++◌, map, filter, ap, ◌∙◌}
use Rattle.chunk_join.specs.Parts.{stops, reach_back}
use Rattle.chunk_join.proofs.SeamSilences.{join_from}
use Rattle.chunk_join.proofs.silence_joins.join_silences.Goals as goal

pub returns : goal.returns
returns c = join_from c.args.seam c.args.start c.args.left.now.items c.args.tail.now c.args.right.now _ c.requires.ended c.requires.tail
    (c.append_reached.ensures ∙ ap (λ xs. xs ++ map (reach_back c.args.seam c.args.tail.now) c.args.right.now)
    (c.append_stopping.ensures.items
    ∙ ap (λ xs. xs ++ filter (stops c.args.seam c.args.right.now) c.args.tail.now) c.truncate.ensures.items))
