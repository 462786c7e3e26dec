use Rattle.std.proofs.Common.{◌≡◌, ◌-◌, leb, subst, sym, ◌∙◌, suc, arith, rules}
use Rattle.std.proofs.lemmas.List.Sorted.{IsPartitionPoint-from_clause, IsPartitionedBy-leb}
use Rattle.std.proofs.lemmas.Option.{slice_get-get_or}
use Rattle.step_trace.specs.declared.rows.Row.{Row}
use Rattle.front.proofs.LastBegun.{IsPlace, IsNonDecreasingBy-rising, last_begun-first, last_begun-at}
use Rattle.front.proofs.reports.last_begun.Goals as goal

pub returns-then-count-eq0 : goal.returns-then-count-eq0
returns-then-count-eq0 c =
    let parted = IsPartitionedBy-leb (λ (r : Row). r.gst) c.args.rows.now c.args.g (IsNonDecreasingBy-rising c.args.rows.now c.requires) in
    let place = IsPartitionPoint-from_clause (λ (r : Row). leb r.gst c.args.g) _ _ c.partition_point-count.ensures.partitioned parted
    (λ a r q k. search rules) in
    sym (last_begun-first c.args.rows.now c.args.g (subst (IsPlace c.args.rows.now c.args.g) c.if-count-eq0.true place))

pub returns : goal.returns
returns c =
    let parted = IsPartitionedBy-leb (λ (r : Row). r.gst) c.args.rows.now c.args.g (IsNonDecreasingBy-rising c.args.rows.now c.requires) in
    let place = IsPartitionPoint-from_clause (λ (r : Row). leb r.gst c.args.g) _ _ c.partition_point-count.ensures.partitioned parted
    (λ a r q k. search rules) in
    let more : c.partition_point-count.result ≡ suc (c.partition_point-count.result - 1) = omega arith in
    let row = last_begun-at c.args.rows.now c.args.g
    (c.partition_point-count.result - 1) (let b = c.partition_point-count.ensures.bound in omega arith)
    (subst (IsPlace c.args.rows.now c.args.g) more place) in
    sym (row ∙ slice_get-get_or c.args.rows.now (c.partition_point-count.result - 1) _
    (let b = c.partition_point-count.ensures.bound in omega arith))
