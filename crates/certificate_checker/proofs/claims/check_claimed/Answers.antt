use Rattle.std.proofs.Common.{List, IfOk, length, ◌<◌, ◌≤◌, sym, subst, ◌∙◌}
use Rattle.std.specs.Prelude.{OnErr}
use Rattle.certificate_checker.proofs.Common.{Row, Reason, IsVerdict, Stands, place_of}
use Rattle.certificate_checker.proofs.ClaimVerdicts.{claimed-in_order, claimed-beyond, claimed-refuted}
use Rattle.certificate_checker.proofs.claims.check_claimed.Goals as goal

pub returns-in-InOrder-clause-verdict : goal.returns-in-InOrder-clause-verdict
returns-in-InOrder-clause-verdict c = λ all e.
    let kept = claimed-in_order c.args.trace.now.last c.in-InOrder.rows all (sym c.in-InOrder.is ∙ e) in
    subst (λ (rows : List Row). IfOk c.check.result (λ v. IsVerdict c.args.set c.args.trace.now rows v))
    (c.as_slice.ensures ∙ kept) c.check.ensures.verdict

pub returns-in-InOrder-clause-more : goal.returns-in-InOrder-clause-more
returns-in-InOrder-clause-more c = λ all e.
    let kept = claimed-in_order c.args.trace.now.last c.in-InOrder.rows all (sym c.in-InOrder.is ∙ e) in
    subst (λ (rows : List Row). OnErr c.check.result ((0 < length rows) × ((why : Reason)
    → place_of why ≤ 6 → ¬ Stands c.args.set c.args.trace.now rows why))) (c.as_slice.ensures ∙ kept) c.check.ensures.more

pub returns-in-Beyond-clause-verdict : goal.returns-in-Beyond-clause-verdict
returns-in-Beyond-clause-verdict c = λ all e.
    claimed-beyond c.args.set c.args.trace.now all c.in-Beyond.first c.in-Beyond.count c.in-Beyond.gst (sym c.in-Beyond.is ∙ e)

pub returns-in-Refuted-clause-verdict : goal.returns-in-Refuted-clause-verdict
returns-in-Refuted-clause-verdict c = λ all e. claimed-refuted c.args.set c.args.trace.now all c.in-Refuted.why c.in-Refuted.count
    (sym c.in-Refuted.is ∙ e)
