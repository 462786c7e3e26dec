-- A well-formed list of steps, and the index of its taken messages, with one step more.
use Rattle.std.proofs.Common.{ℕ, ◌≡◌, ◌+◌, ◌⊎◌, inl, inr, List, [], ◌∷◌, ◌++◌, length, Bool, false, ◌||◌, refl, ap, sym, ◌∙◌, subst, suc, zero, get_or, arith}
use Rattle.std.specs.Prelude.{Contains, IfSome}
use Rattle.std.specs.List.Sorted.{IsStrictlyIncreasing}
use Rattle.std.proofs.Math.Bool.{or-false}
use Rattle.std.proofs.lemmas.List.Folds.{list_any-append}
use Rattle.std.proofs.lemmas.Grind.{common_steps}
use Rattle.step_trace.specs.declared.steps.Step.{Step}
use Rattle.step_trace.specs.Configurations.{Setup, IsProc}
use Rattle.step_trace.specs.Steps.{act_ids, act_dest, act_takes}
use Rattle.step_trace.specs.Traces.{IsSentTo, TakesAt, IsWellFormed}
use Rattle.step_trace.specs.PushRefusals.{is_taken}
use Rattle.step_trace.specs.DeliveryIndex.{IsIndex, flag_of}
use Rattle.step_trace.proofs.StepPositions.{step_at-push_cases, step_at-push_old, step_at_within, taken_from_at}
use Rattle.step_trace.proofs.FittingSteps.{Fits}

-- a message stays with its receiver
IsSentTo-push : (steps : List Step) (x : Step) (s p : ℕ) → IsSentTo steps s p → IsSentTo (steps ++ x ∷ []) s p
IsSentTo-push steps x s p h = (h.0, step_at-push_old steps x _ s h.1)

-- what is taken is taken by an old step, or by the new one
pub TakesAt-push_cases : (steps : List Step) (x : Step) (m s : ℕ)
    → TakesAt (steps ++ x ∷ []) m s → TakesAt steps m s ⊎ ((m ≡ length steps + 1) × Contains (act_ids x.act) s)
TakesAt-push_cases steps x m s h = elim (step_at-push_cases steps x h.0 m h.1)
    [ inl e ↦ inl (h.0, e, h.2) | inr e ↦ inr (e.0, subst (λ (z : Step). Contains (act_ids z.act) s) (sym e.1) h.2) ]

-- a list of steps stays well formed with a step that fits
pub IsWellFormed-push : (c : Setup) (steps : List Step) (x : Step)
    → IsWellFormed c steps → Fits c steps x → IsWellFormed c (steps ++ x ∷ [])
IsWellFormed-push c steps x w f = record {
  short = let r = f.room in grind (arith, common_steps);
  procs = λ k y h. elim (step_at-push_cases steps x y k h)
      [ inl e ↦ w.procs k y e | inr e ↦ subst (λ (z : Step). IsProc c z.proc) e.1 f.proc ];
  dests = λ k y h. elim (step_at-push_cases steps x y k h)
      [ inl e ↦ w.dests k y e | inr e ↦ subst (λ (z : Step). IfSome (act_dest z.act) (IsProc c)) e.1 f.dest ];
  rising = λ k y h. elim (step_at-push_cases steps x y k h)
      [ inl e ↦ w.rising k y e | inr e ↦ subst (λ (z : Step). IsStrictlyIncreasing (act_ids z.act)) e.1 f.rising ];
  earlier = λ k s y h t. elim (step_at-push_cases steps x y k h) [
    | inl e ↦ (let o = w.earlier k s y e t in (o.0, IsSentTo-push steps x s y.proc o.1))
    | inr e ↦ (let d = f.sent s (subst (λ (z : Step). Contains (act_ids z.act) s) (sym e.1) t) in
        let b = step_at_within steps s _ d.1 in
        let q = e.0 in
        (omega arith, subst (λ (z : Step). IsSentTo (steps ++ x ∷ []) s z.proc) e.1 (IsSentTo-push steps x s x.proc d)))
  ];
  once = λ m n s a b. elim (TakesAt-push_cases steps x m s a) [
    | inl d ↦ elim (TakesAt-push_cases steps x n s b)
        [ inl e ↦ w.once m n s d e | inr e ↦ (let p = taken_from_at steps m s d in let q = f.fresh s e.1 in cc) ]
    | inr d ↦ elim (TakesAt-push_cases steps x n s b)
        [ inl e ↦ (let p = taken_from_at steps n s e in let q = f.fresh s d.1 in cc) | inr e ↦ d.0 ∙ sym e.0 ]
  ];
}

-- flags with one more false flag are the same, since there is none past the end
flag_of-push : (taken : List Bool) (s : ℕ) → flag_of (taken ++ false ∷ []) s ≡ flag_of taken s
flag_of-push taken zero = refl
flag_of-push taken (suc k) = go taken k where
  go : (t : List Bool) (k : ℕ) → get_or (t ++ false ∷ []) k false ≡ get_or t k false
  go [] zero = refl
  go [] (suc k) = refl
  go (b ∷ t) zero = refl
  go (b ∷ t) (suc k) = go t k

-- the index with the ids of the new step marked is that of the longer list
pub IsIndex-push : (steps : List Step) (x : Step) (taken new : List Bool) → IsIndex steps taken → length new ≡ length taken + 1
    → ((s : ℕ) → flag_of new s ≡ (flag_of (taken ++ false ∷ []) s || act_takes x.act s)) → IsIndex (steps ++ x ∷ []) new
IsIndex-push steps x taken new i l m = record {
  long = let e = i.long in grind (arith, common_steps);
  each = λ s. m s ∙ ap (λ b. b || act_takes x.act s) (flag_of-push taken s ∙ i.each s)
      ∙ ap (λ b. is_taken steps s || b) (sym (or-false (act_takes x.act s)))
      ∙ sym (list_any-append (λ x. act_takes x.act s) steps (x ∷ []));
}
