use Rattle.std.proofs.Common.{ℕ, ◌<◌, ◌∙◌, ap, arith, inr, refl, subst}
use Rattle.step_trace.specs.Configurations.{Setup}
use Rattle.trace_text.specs.Faults.{inner_of}
use Rattle.node_runs.specs.DecisionLines.{told_later}
use Rattle.node_runs.specs.StandingLines.{told_stop}
use Rattle.node_runs.proofs.ToldLines.{begun_nothing, due_later, next_told}
use Rattle.node_runs.proofs.followers.Follower.tell_due.Goals as goal

pub returns-then-not-is_due-clause-told : goal.returns-then-not-is_due-clause-told
returns-then-not-is_due-clause-told g c = begun_nothing _ told_stop _ (inr (omega arith, refl))

pub returns-in-Ok-clause-told : goal.returns-in-Ok-clause-told
returns-in-Ok-clause-told g c =
    let told = c.args.self.now.told in
    let less = subst (λ (n : ℕ). told < n) c.len.ensures.value (due_later _ _ _ (c.if-not-is_due.ensures.0 refl)) in
    let all = c.n-all.ensures.value ∙ ap (λ (s : Setup). s.n) c.config.ensures in
    let said =
    c.as_str.ensures.value ∙ (c.in-Ok.ensures ∙ (ap (λ n. told_later n told c.deref.result.now) all
    ∙ ap (told_later c.args.prefix.now.trace.config.n told) c.deref.ensures.value)) in
    next_told c.args.self.now.analyst.set c.args.prefix.now.trace
    c.args.prefix.now.decisions.items told c.tell.new.self.told c.as_str.result.now c.args.self.now.is_over _ _ less said
    (λ over. let same = c.tell.ensures.over over in
    (ap (λ f. f.told) same, ap (λ f. g.W.Write.contents (inner_of f.writer)) same)) c.tell.ensures.count c.tell.ensures.told
