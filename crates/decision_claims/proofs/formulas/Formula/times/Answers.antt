use Rattle.decision_claims.proofs.FormulaTimes.{is_times}
use Rattle.decision_claims.proofs.formulas.Formula.times.Goals as goal

pub returns : goal.returns
returns c = rw (c.in_ok-push.ensures.items, c.in_ok-factors.ensures.items, c.deref.ensures.value, c.in_ok-parts.ensures, ← c.self.view_is)
    (is_times c.args.factor c.self.inside.factors.items c.self.inside.parts)
