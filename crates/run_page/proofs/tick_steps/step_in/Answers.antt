use Rattle.std.proofs.Common.{◌≡◌, ◌+◌, ◌∙◌, inl, inr, true, false, sym, subst, arith}
use Rattle.std.proofs.lemmas.Bool.{cases_lt}
use Rattle.step_trace.specs.Traces.{IsStepOf}
use Rattle.run_page.proofs.TickSearches.{none-inside}
use Rattle.run_page.proofs.tick_steps.step_in.Goals as goal

pub loop-no-preserved : goal.loop-no-preserved
loop-no-preserved c = λ k after up step. elim (cases_lt k (c.loop-no.no + 1)) [
  | inl before ↦ c.loop-no.invariant k after (omega (arith, before)) step
  | inr here ↦ (
      let same : k ≡ c.loop-no.no + 1 = omega (arith, up, here) in
      let found = c.is_step_of.ensures.1 (subst (λ n. IsStepOf c.args.trace.now.steps n c.args.proc) same step) in
      let wrong : true ≡ false = sym found ∙ c.if-is_step_of.false in
      cc)
]

pub returns : goal.returns
returns c =
    none-inside c.args.trace.now c.args.proc c.args.tick c.steps_before-before.result c.steps_before-end.result c.loop-no.no
    c.steps_before-before.ensures c.steps_before-end.ensures (omega (arith, c.loop-no-test.false)) c.loop-no.invariant
