use Rattle.std.proofs.Common.{map}
use Rattle.std.proofs.lemmas.List.{length-map}
use Rattle.std.proofs.lemmas.Result.{err_from_is_err_and}
use Rattle.run_words.proofs.LaneFacts.{one_lane_more, refused_here}
use Rattle.run_words.proofs.NameLists.{name_at-text}
use Rattle.run_words.proofs.lane_lists.set_of.Goals as goal

pub loop-i-preserved : goal.loop-i-preserved
loop-i-preserved c = one_lane_more (map (λ x. x.now) c.args.names.now) (map (λ x. x.now) c.args.parts.now) _ c.args.count
    c.loop-i.i c.loop-i.set c.with-set.result c.in_ok-p.p c.loop-i.invariant (name_at-text c.args.parts.now c.loop-i.i c.loop-i-test.true)
    c.in_ok-p.ensures.lane c.in_ok-p.ensures.high c.with-set.ensures.added c.with-set.ensures.others

pub returns-in_err-p-clause-refused : goal.returns-in_err-p-clause-refused
returns-in_err-p-clause-refused c =
    let why = err_from_is_err_and c.from_residual.result c.from_residual.ensures.1 in
    rw (why.1, why.2) (
    refused_here (map (λ x. x.now) c.args.names.now)
    (map (λ x. x.now) c.args.parts.now) _ c.args.count c.loop-i.i c.loop-i.set c.in_err-p.field-0.0 c.loop-i.invariant
    (rw length-map c.loop-i-test.true) (name_at-text c.args.parts.now c.loop-i.i c.loop-i-test.true) c.in_err-p.ensures.refused)
