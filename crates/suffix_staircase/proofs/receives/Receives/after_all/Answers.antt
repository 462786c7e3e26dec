use Rattle.std.proofs.Common.{ℕ, ◌+◌, ◌∙◌, ap, replicate}
use Rattle.step_trace.specs.Configurations.{Setup}
use Rattle.suffix_staircase.proofs.ReceivesLowered.{KnowsReceives-after_all}
use Rattle.suffix_staircase.proofs.receives.Receives.after_all.Goals as goal

pub returns : goal.returns
returns c =
    let steps = ap (λ (m : ℕ). replicate {A = ℕ} (m + 1) 0) c.len-steps.ensures.value in
    let processors = ap (λ (m : ℕ). replicate {A = ℕ} (m + 1) 0) (c.n.ensures.value ∙ ap (λ (s : Setup). s.n) c.config.ensures) in
    λ set. KnowsReceives-after_all set c.args.trace.now _
    (c.in_ok-zeros.ensures ∙ steps) (c.in_ok-zeros-2.ensures ∙ processors) (c.in_ok-zeros-3.ensures ∙ processors)
