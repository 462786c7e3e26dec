use Rattle.std.proofs.Common.{◌≡◌, Some, ◌∙◌, ap}
use Rattle.std.proofs.lemmas.Option.{same_Some, none-some}
use Rattle.step_buffers.proofs.Common.{act_sends_to, step_at, Step}
use Rattle.step_buffers.proofs.StepPrefixes.{step_at-end}
use Rattle.step_buffers.proofs.replays.last_sends_to.Goals as goal

pub returns-in-Some : goal.returns-in-Some
returns-in-Some c = λ steps last e.
    let at : step_at c.args.trace.now.steps c.len.result
    ≡ Some last = rw c.len.ensures.value (step_at-end c.args.trace.now.steps steps last e) in
    let same : c.in-Some.step.now ≡ last = same_Some c.in-Some.step.now last (c.in-Some.ensures.value ∙ at) in
    c.sends_to.ensures ∙ ap (λ (x : Step). act_sends_to x.act c.args.p) same

pub returns-in-None : goal.returns-in-None
returns-in-None c = λ steps last e.
    let at : step_at c.args.trace.now.steps c.len.result
    ≡ Some last = rw c.len.ensures.value (step_at-end c.args.trace.now.steps steps last e) in
    absurd (none-some last (c.in-None.ensures.value ∙ at))
