-- A step by the pace keeps a run by the pace.
use Rattle.std.proofs.Common.{ℕ, zero, suc, ◌≡◌, ◌+◌, ◌-◌, ◌≤◌, inl, inr, List, [], ◌∷◌, ◌++◌, length, take, Option, Some, None, Bool, refl, sym, ap, subst, ◌∙◌, arith}
use Rattle.std.specs.Prelude.{slice_get}
use Rattle.std.proofs.lemmas.Bool.{true≢false}
use Rattle.std.proofs.Math.Seq.{take-append-le, take-length}
use Rattle.patience_laws.proofs.Common.{Act, Send, Receive, Step, Setup, act_sends, step_at, IsWellFormed}
use Rattle.patience_laws.proofs.Common.{step_at_within, step_at-push_cases, slice_get-last, before-prefix}
use Rattle.patience_laws.proofs.Common.{passed-before, next_destination-prefix, before-now, state_after-prefix}
use Rattle.patience_laws.proofs.Common.{heard_ids, is_over}
use Rattle.step_trace.proofs.PagePlaces.{slice_get-left}
use Rattle.step_buffers.specs.HeardTables.{passed, before, round_at, heard_table}
use Rattle.step_buffers.specs.Moves.{next_send}
use Rattle.step_buffers.specs.Runs.{next_destination, node_before}
use Rattle.round_model.specs.RoundStates.{state_after}
use Rattle.patience_laws.specs.PacedRuns.{pace_after, pace_taking, pace_stepping, StepsByPace, IsPacedAct, IsPacedStep}

-- the pace after some steps is the same in each longer list
pace_after-prefix : (c : Setup) (patience : ℕ) (steps more : List Step) (p k : ℕ)
    → k ≤ length steps → pace_after c patience (steps ++ more) p k ≡ pace_after c patience steps p k
unfolding pace_after
pace_after-prefix c patience steps more p zero l = refl
pace_after-prefix c patience steps more p (suc k) l = ap (λ xs. pace_stepping xs p
    (slice_get (steps ++ more) k) (pace_after c patience (steps ++ more) p k)) (take-append-le k steps more (omega arith))
    ∙ ap (λ o. pace_stepping (take k steps) p o (pace_after c patience (steps ++ more) p k)) (slice_get-left steps more k (omega arith))
    ∙ ap (pace_stepping (take k steps) p (slice_get steps k)) (pace_after-prefix c patience steps more p k (omega arith))

-- the pace goes on with one step more
pub pace_after-push : (c : Setup) (patience : ℕ) (steps : List Step) (step : Step) (p : ℕ) → pace_after c patience
    (steps ++ step ∷ []) p (suc (length steps)) ≡ pace_stepping steps p (Some step) (pace_after c patience steps p (length steps))
unfolding pace_after
pace_after-push c patience steps step p =
    ap (λ xs. pace_stepping xs p (slice_get (steps ++ step ∷ []) (length steps))
    (pace_after c patience (steps ++ step ∷ []) p (length steps)))
    (take-append-le (length steps) steps (step ∷ []) (omega arith) ∙ take-length steps)
    ∙ ap (λ o. pace_stepping steps p o (pace_after c patience (steps ++ step ∷ []) p (length steps))) (slice_get-last steps step)
    ∙ ap (pace_stepping steps p (Some step)) (pace_after-prefix c patience steps (step ∷ []) p (length steps) (omega arith))

-- before any step
pub StepsByPace-none : (c : Setup) (patience p : ℕ) → StepsByPace c patience [] p
StepsByPace-none c patience p = record {
  sends = λ k to act at next. absurd (let l = step_at_within [] k _ at in let low = l.0 in let high = l.1 in omega arith);
  ends = λ k ids ends at. absurd (let l = step_at_within [] k _ at in let low = l.0 in let high = l.1 in omega arith);
}

module _ (c : Setup) (patience : ℕ) (steps : List Step) (step : Step)
    (p : ℕ) (w : IsWellFormed c steps) (paced : StepsByPace c patience steps p) (is : IsPacedStep c patience steps p step) where
  abbrev longer : List Step
  longer = steps ++ step ∷ []

  -- the step is the next one of p by its pace
  next-act : (act : Act) → step ≡ record { proc = p; act = act } → IsPacedAct c patience steps p (next_send c steps p) act
  next-act act e = subst (IsPacedAct c patience steps p (next_send c steps p))
      (ap (λ (x : Step). x.act) e) (is (ap (λ (x : Step). x.proc) e))

  next-same : next_destination c longer p (length steps + 1) ≡ next_send c steps p
  next-same = sym (next_destination-prefix c steps (step ∷ []) p (length steps + 1) w (omega arith))

  sends-next : (to : ℕ) (act : Act) → step ≡ record { proc = p; act = act }
      → next_destination c longer p (length steps + 1) ≡ Some to → act ≡ Send to
  sends-next to act e next = subst (λ o. IsPacedAct c patience steps p o act) (sym next-same ∙ next) (next-act act e)

  ends-next : (ids : List ℕ) (ends : Bool) → step ≡ record { proc = p; act = Receive ends ids } → ends ≡ is_over c (node_before c longer p
      (length steps + 1)) (round_at longer p (length steps + 1)) p (pace_taking c patience longer p (length steps + 1) ids)
  ends-next ids ends e = go (next_send c steps p) refl (next-act (Receive ends ids) e)
    where
      before-is : before longer (length steps + 1) ≡ steps
      before-is = before-prefix steps (step ∷ []) (length steps + 1) (omega arith) ∙ before-now steps

      back : length steps + 1 - 1 ≡ length steps
      back = omega arith

      go : (o : Option ℕ) → next_send c steps p ≡ o → IsPacedAct c patience steps p o (Receive ends ids) → ends ≡ is_over c (node_before c
          longer p (length steps + 1)) (round_at longer p (length steps + 1)) p (pace_taking c patience longer p (length steps + 1) ids)
      go (Some to) f h = absurd (true≢false (sym (ap act_sends h)))
      go None f h = h ∙ ap (λ node. is_over c node (passed steps p + 1) p (heard_ids steps p ids
          (pace_after c patience steps p (length steps)))) (state_after-prefix c steps (step ∷ []) (passed steps p) p w (omega arith))
          ∙ ap (λ x. is_over c (state_after c (heard_table longer) (passed steps p) p) (passed steps p + 1) p (heard_ids steps p ids x))
          (sym (ap (pace_after c patience longer p) back ∙ pace_after-prefix c patience steps (step ∷ []) p (length steps) (omega arith)))
          ∙ ap (λ xs. is_over c (state_after c (heard_table longer) (passed xs p) p)
          (passed xs p + 1) p (heard_ids xs p ids (pace_after c patience longer p (length steps + 1 - 1)))) (sym before-is)

  ends-old : (k : ℕ) (ids : List ℕ) (ends : Bool) → step_at steps k ≡ Some (record { proc = p; act = Receive ends ids })
      → ends ≡ is_over c (node_before c longer p k) (round_at longer p k) p (pace_taking c patience longer p k ids)
  ends-old k ids ends at =
      let within = step_at_within steps k _ at in
      let high = within.1 in
      paced.ends k ids ends at
      ∙ ap (λ node. is_over c node (round_at steps p k) p (pace_taking c patience steps p k ids))
      (state_after-prefix c steps (step ∷ []) (passed (before steps k) p) p w (passed-before steps p k))
      ∙ ap (λ x. is_over c (state_after c (heard_table longer) (passed (before steps k) p) p) (round_at steps p k) p
      (heard_ids (before steps k) p ids x))
      (sym (pace_after-prefix c patience steps (step ∷ []) p (k - 1) (omega arith)))
      ∙ ap (λ xs. is_over c (state_after c (heard_table longer) (passed xs p) p) (passed xs p + 1) p
      (heard_ids xs p ids (pace_after c patience longer p (k - 1)))) (sym (before-prefix steps (step ∷ []) k (omega arith)))

  pub StepsByPace-push : StepsByPace c patience (steps ++ step ∷ []) p
  StepsByPace-push = record {
    sends = λ k to act at next. elim (step_at-push_cases steps step (record { proc = p; act = act }) k at) [
      | inl old ↦ paced.sends k to act old
          (next_destination-prefix c steps (step ∷ []) p k w (let l = (step_at_within steps k _ old).1 in omega arith) ∙ next)
      | inr new ↦ sends-next to act new.1 (ap (next_destination c longer p) (sym new.0) ∙ next)
    ];
    ends = λ k ids ends at. elim (step_at-push_cases steps step (record { proc = p; act = Receive ends ids }) k at) [
      | inl old ↦ ends-old k ids ends old
      | inr new ↦ subst (λ n. ends ≡ is_over c (node_before c longer p n) (round_at longer p n) p (pace_taking c patience longer p n ids))
          (sym new.0) (ends-next ids ends new.1)
    ];
  }
