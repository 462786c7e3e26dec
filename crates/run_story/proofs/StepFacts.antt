-- Facts of steps by numbers that may be those of no step.
use Rattle.std.proofs.Common.{ℕ, ◌≡◌, ◌+◌, ◌<◌, ◌||◌, ◌==◌, ◌∙◌, List, [], ◌∷◌, Bool, length, take, sym, ap, suc, zero, arith}
use Rattle.std.specs.List.{list_any}
use Rattle.std.proofs.Math.Bool.{or-false, or_assoc}
use Rattle.step_trace.specs.declared.steps.Step.{Step}
use Rattle.step_trace.specs.PushRefusals.{is_taken}
use Rattle.step_trace.specs.Steps.{act_takes}
use Rattle.step_trace.specs.Traces.{ids_at}

-- one step more, and what it takes is taken
taken_suc : (steps : List Step) (i s : ℕ) → i < length steps
    → is_taken (take (suc i) steps) s ≡ (is_taken (take i steps) s || list_any (λ k. k == s) (ids_at steps (suc i)))
taken_suc [] i s inside = absurd (let none : i < 0 = inside in omega arith)
taken_suc (x ∷ rest) zero s inside = or-false (act_takes x.act s)
taken_suc (x ∷ rest) (suc i) s inside = ap (λ b. act_takes x.act s || b) (taken_suc rest i s (omega arith))
    ∙ sym (or_assoc (act_takes x.act s) (is_taken (take i rest) s) (list_any (λ k. k == s) (ids_at rest (suc i))))

pub is_taken-next : (steps : List Step) (i s : ℕ) (flag taken : Bool) → i < length steps → taken ≡ is_taken (take i steps) s
    → flag ≡ (taken || list_any (λ k. k == s) (ids_at steps (i + 1))) → flag ≡ is_taken (take (i + 1) steps) s
is_taken-next steps i s flag taken inside known marked =
    let next : i + 1 ≡ suc i = omega arith in
    rw next (rw (next, known) at marked ∙ sym (taken_suc steps i s inside))
