use Rattle.std.proofs.Common.{◌≡◌, ◌+◌, ◌++◌, ◌∷◌, [], take, sym, ap, ◌∙◌, arith}
use Rattle.std.proofs.lemmas.List.{take_more, take_all}
use Rattle.std.proofs.lemmas.List.Elements.{All-push}
use Rattle.locked_recorder.specs.Audits.{IsExtended}
use Rattle.locked_recorder.proofs.comparisons.first_not_extended.Goals as goal

pub loop-i-preserved : goal.loop-i-preserved
loop-i-preserved c =
    let trace = c.args.trace.now in
    let views = c.args.views.now in
    let i = c.loop-i.i in
    let view = c.index-views-i.result in
    let grown : take (i + 1) views ≡ take i views ++ view ∷ [] = take_more views i view c.loop-i-test.true
    ∙ ap (λ v. take i views ++ v ∷ []) (sym c.index-views-i.is) in
    rw grown (All-push (λ v. IsExtended trace v) (take i views) view c.loop-i.invariant (c.extends.ensures.0 c.if-not-extends.false))

pub returns-clause-none : goal.returns-clause-none
returns-clause-none c =
    let last = c.loop-i-test.false in
    rw (take_all c.loop-i.i c.args.views.now (omega arith)) at c.loop-i.invariant
