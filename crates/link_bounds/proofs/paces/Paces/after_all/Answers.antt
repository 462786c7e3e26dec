use Rattle.std.proofs.Common.{ℕ, ◌≡◌, ◌+◌, ◌≤◌, List, set, replicate, length, ◌∙◌, ap, arith}
use Rattle.std.proofs.lemmas.List.{get_or-replicate, length-replicate}
use Rattle.step_trace.specs.Configurations.{Setup}
use Rattle.suffix_staircase.proofs.NextSteps.{AreNextTicks-after_all}
use Rattle.link_bounds.specs.Evidence.{without_evidence}
use Rattle.link_bounds.proofs.OwnGaps.{bounds_after_all}
use Rattle.link_bounds.proofs.paces.Paces.after_all.Goals as goal

pub returns : goal.returns
returns c =
    let t = c.args.trace.now in
    let n : c.n.result ≡ t.config.n = c.n.ensures.value ∙ ap (λ (s : Setup). s.n) c.config.ensures in
    let sound = c.n.ensures.sound in
    let most = sound.most in
    let few = c.n.ensures.value in
    let entries : replicate {A = ℕ} (c.n.result + 1) (c.last_tick.result + 1) ≡ replicate (t.config.n + 1) (t.last + 1) =
    ap (λ (m : ℕ). replicate {A = ℕ} (m + 1) (c.last_tick.result + 1)) n
    ∙ ap (λ (m : ℕ). replicate {A = ℕ} (t.config.n + 1) (m + 1)) c.last_tick.ensures.value in
    let next = AreNextTicks-after_all (λ p. 1 ≤ p) t _ (ap (λ (xs : List ℕ). set xs 0 0) (c.in_ok-next_steps.ensures ∙ entries)) in
    record {
      sound = c.last_tick.ensures.well_formed;
      few = omega arith;
      next = next;
      long = ap length c.in_ok-copies.ensures ∙ length-replicate _ _ ∙ ap (λ (m : ℕ). m + 1) n;
      each = λ p low high. rw (
        c.in_ok-copies.ensures,
        c.without_evidence.ensures,
        get_or-replicate
            (c.n.result + 1) p without_evidence without_evidence (omega arith),
      ) (bounds_after_all t p _ (next.each p low high low));
    }
