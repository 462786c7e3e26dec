-- The processor bound is kept by one step more.
use Rattle.std.proofs.Common.{ℕ, suc, ◌≡◌, ◌+◌, ◌<◌, ◌≤◌, ◌⊎◌, inl, inr, List, [], ◌∷◌, ◌++◌, Some, length, max, slice_get, refl, sym, ap, subst, ◌∙◌, arith, length-append}
use Rattle.std.proofs.lemmas.Bool.{cases_lt}
use Rattle.simulated_runs.proofs.Common.{Step, Setup, step_at, IsStepOf, step_at-push_old, step_at_last, step_at_within}
use Rattle.simulated_runs.proofs.Common.{Crash, Turn, ArePassed, IsTurnIn, MayStep, next_turn, IsLive, IsSinceStep}
use Rattle.simulated_runs.proofs.Common.{KeepsPhi, StepsFrom}

-- steps stay
step-old : (steps : List Step) (x : Step) (k p : ℕ) → IsStepOf steps k p → IsStepOf (steps ++ x ∷ []) k p
step-old steps x k p h = (h.0, step_at-push_old steps x _ k h.1)

step-last : (steps : List Step) (x : Step) → IsStepOf (steps ++ x ∷ []) (length steps + 1) x.proc
step-last steps x =
    let e : suc (length steps) ≡ length steps + 1 = omega arith in
    (x.act, subst (λ (k : ℕ). step_at (steps ++ x ∷ []) k ≡ Some x) e (step_at_last steps x))

pub KeepsPhi-stepped : (c : Setup) (crashes : List Crash) (gst phi : ℕ) (old new : List Turn) (steps : List Step) (x : Step) (p : ℕ)
    → x.proc ≡ p → MayStep old (length steps + 1) p → ArePassed gst phi old new (length steps + 1) p → KeepsPhi c crashes gst phi old steps
    → KeepsPhi c crashes gst phi new (steps ++ x ∷ [])
KeepsPhi-stepped c crashes gst phi old new steps x p own may passed k = record {
  few = let a = passed.count in let b = k.few in omega arith;
  in_time = λ place t h. let l = timed place t h in let n : length (steps ++ x ∷ []) ≡ length steps + 1 = long in omega arith;
  since = since;
  each = λ q live. passed.kept q (k.each q live);
  kept = λ y low high q live. kept y low high q live (cases_lt (length steps + 1) (y + phi));
}
  where
    long : length (steps ++ x ∷ []) ≡ length steps + 1
    long = length-append steps (x ∷ [])

    timed : (place : ℕ) (t : Turn) → slice_get new place ≡ Some t → length steps + 1 + place < t.deadline
    timed = passed.in_time (length steps) refl k.few may k.in_time

    since : (t : Turn) → IsTurnIn new t → IsSinceStep gst phi (steps ++ x ∷ []) t
    since t h = elim (passed.each t h) [
      | inl before ↦ elim (k.since t before) [
        | inl early ↦ inl early
        | inr step ↦ inr (step.0, step.1, step-old steps x step.0 t.proc step.2)
      ]
      | inr moved ↦ of (cases_lt gst (length steps + 1)) moved.1
    ]
      where
        of : (gst < length steps + 1) ⊎ (length steps + 1 ≤ gst)
            → t ≡ next_turn gst phi (length steps + 1) p → IsSinceStep gst phi (steps ++ x ∷ []) t
        of (inl late) e =
            let due : t.deadline ≡ max (length steps + 1) gst + phi = ap (λ (z : Turn). z.deadline) e in
            let same : x.proc ≡ t.proc = own ∙ sym (ap (λ (z : Turn). z.proc) e) in
            inr (length steps + 1, omega arith, subst (λ (q : ℕ). IsStepOf (steps ++ x ∷ []) (length steps + 1) q) same (step-last steps x))
        of (inr early) e =
            let due : t.deadline ≡ max (length steps + 1) gst + phi = ap (λ (z : Turn). z.deadline) e in
            inl (omega arith)

    kept : (y : ℕ) → gst + 1 ≤ y → y + phi ≤ length (steps ++ x ∷ []) + 1
        → (q : ℕ) → IsLive c crashes q → (length steps + 1 < y + phi) ⊎ (y + phi ≤ length steps + 1) → StepsFrom (steps ++ x ∷ []) q y phi
    kept y low high q live (inr before) =
        let w = k.kept y low before q live in
        record { place = w.place; from = w.from; until = w.until; step = step-old steps x w.place q w.step }
    kept y low high q live (inl now) =
        let turn = passed.kept q (k.each q live) in
        at turn.0 turn.1.0 turn.1.1 turn.2 (since turn.0 turn.1)
      where
        at : (t : Turn) (place : ℕ) → slice_get new place ≡ Some t
            → t.proc ≡ q → IsSinceStep gst phi (steps ++ x ∷ []) t → StepsFrom (steps ++ x ∷ []) q y phi
        at t place h same (inl early) = let l = timed place t h in
            let n : length (steps ++ x ∷ []) ≡ length steps + 1 = long in absurd (omega arith)
        at t place h same (inr step) =
            let l = timed place t h in
            let e : t.deadline ≡ step.0 + phi = step.1 in
            let n : length (steps ++ x ∷ []) ≡ length steps + 1 = long in
            let within = (step_at_within (steps ++ x ∷ []) step.0 _ step.2.1).1 in
            record {
              place = step.0;
              from = omega arith;
              until = omega arith;
              step = subst (λ (r : ℕ). IsStepOf (steps ++ x ∷ []) step.0 r) same step.2;
            }
