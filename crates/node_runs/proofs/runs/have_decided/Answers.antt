use Rattle.std.proofs.Common.{ℕ, ◌≡◌, inl, inr, arith, subst, sym, ap, ◌∙◌}
use Rattle.std.specs.Prelude.{is_some, IsTrue}
use Rattle.std.proofs.lemmas.Bool.{cases_lt}
use Rattle.step_trace.specs.Configurations.{Setup}
use Rattle.step_trace.specs.Traces.{Recorded}
use Rattle.step_buffers.specs.Runs.{node_at}
use Rattle.node_runs.proofs.runs.have_decided.Goals as goal

pub loop-p-preserved : goal.loop-p-preserved
loop-p-preserved c = λ q low below. elim (cases_lt q c.loop-p.p) [
  | inl less ↦ c.loop-p.invariant q low less
  | inr last ↦ decided q (omega arith)
]
  where
    decided : (q : ℕ) → q ≡ c.loop-p.p → IsTrue (is_some (node_at c.args.world.now.trace.config c.args.world.now.trace.steps q).decision)
    decided q same =
        subst (λ p. IsTrue (is_some (node_at c.args.world.now.trace.config c.args.world.now.trace.steps p).decision)) (sym same)
        (subst (λ d. IsTrue (is_some d)) c.decision.ensures (c.if-is_none.ensures))

pub returns : goal.returns
returns c = λ done p is.
    let low = is.0 in
    let high = is.1 in
    let past = c.loop-p-test.false in
    let all = c.n-p-end.ensures.value in
    let own : c.config.result.now.n ≡ c.args.world.now.trace.config.n =
    ap (λ (s : Setup). s.n) (c.config.ensures ∙ ap (λ (t : Recorded). t.config) c.trace.ensures.value) in
    c.loop-p.invariant p low (omega arith)
