use Rattle.std.proofs.Common.{rules, ap, ◌∙◌}
use Rattle.std.proofs.lemmas.List.{get_or_default}
use Rattle.std.proofs.lemmas.List.Sorted.{IsPartitionPoint-from_clause}
use Rattle.chunk_join.specs.Parts.{comes_before, settle_with}
use Rattle.chunk_join.proofs.SettledMessages.{parted_by_place, settled_at, settled_none}
use Rattle.chunk_join.proofs.message_joins.settle_one.Goals as goal

pub returns-then-at-sent : goal.returns-then-at-sent
returns-then-at-sent c =
    let point = IsPartitionPoint-from_clause (λ m. comes_before m.sent c.args.take.now.sent) _ _
    c.partition_point-at.ensures.partitioned (parted_by_place c.args.sent.now c.args.take.now.sent c.requires)
    (λ a r q k. search rules) in
    settled_at c.args.last.now c.args.take.now c.args.sent.now
    c.partition_point-at.result c.requires point c.settled.result c.if-at-sent.true
    (λ d. c.settled.ensures ∙ ap (settle_with c.args.last.now c.args.take.now)
    (get_or_default c.args.sent.now c.partition_point-at.result _ d c.if-at-sent.true))

pub returns-else-at-sent : goal.returns-else-at-sent
returns-else-at-sent c =
    let point = IsPartitionPoint-from_clause (λ m. comes_before m.sent c.args.take.now.sent) _ _
    c.partition_point-at.ensures.partitioned (parted_by_place c.args.sent.now c.args.take.now.sent c.requires)
    (λ a r q k. search rules) in
    settled_none c.args.last.now c.args.take.now c.args.sent.now c.partition_point-at.result c.requires point c.if-at-sent.false
