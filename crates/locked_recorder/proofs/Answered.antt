-- What a World answers to a move, by the contract of `World::step`.
use Rattle.std.proofs.Common.{ℕ, ◌≡◌, ◌+◌, ◌≤◌, [], ◌∷◌, ◌++◌, length, Some, None, refl, sym, ap, subst, ◌∙◌}
use Rattle.std.proofs.lemmas.List.{length_push}
use Rattle.step_trace.specs.Configurations.{Setup}
use Rattle.step_trace.specs.declared.traces.TheConstants.{MAX_STEPS}
use Rattle.step_buffers.specs.declared.moves.Done.{Done}
use Rattle.step_buffers.specs.declared.moves.Move.{Move}
use Rattle.step_buffers.specs.declared.moves.StepError.{StepError}
use Rattle.step_buffers.specs.Progress.{Progress}
use Rattle.step_buffers.specs.HeardTables.{passed}
use Rattle.step_buffers.specs.Runs.{node_at, IsRun}
use Rattle.step_buffers.specs.Moves.{step_of, step_refusal}
use Rattle.locked_recorder.specs.Recorders.{Identity}
use Rattle.locked_recorder.specs.Recordings.{IsWorldOf, IsAnswer, IsAgainst}

-- a World of a recorder, as it shows under the lock
pub record IsShown (r : Identity) (w : Progress) : Type 0 where
  pub config : w.trace.config ≡ r.config
  pub limit : w.limit ≡ r.limit
  pub run : IsRun w.trace.config w.trace.steps
  pub within : length w.trace.steps ≤ w.limit
  pub bounded : w.limit ≤ MAX_STEPS

-- a World that is the one that was found to be so
pub IsShown-found : (r fields : Identity) (shown w : Progress)
    → fields ≡ r → w ≡ shown → (shown.trace.config ≡ fields.config) × (shown.limit ≡ fields.limit)
    → IsRun shown.trace.config shown.trace.steps → length shown.trace.steps ≤ shown.limit → shown.limit ≤ MAX_STEPS → IsShown r w
IsShown-found r fields shown w is same own run within bounded =
    let found : IsShown fields shown = record { config = own.0; limit = own.1; run = run; within = within; bounded = bounded } in
    subst (λ (v : Progress). IsShown r v) (sym same) (subst (λ (i : Identity). IsShown i shown) is found)

IsWorldOf-shown : (r : Identity) (w : Progress) → IsShown r w → IsWorldOf r w.trace.steps
IsWorldOf-shown r w shown = record {
  run = subst (λ (m : Setup). IsRun m w.trace.steps) shown.config shown.run;
  within = subst (λ (n : ℕ). length w.trace.steps ≤ n) shown.limit shown.within;
  bounded = subst (λ (n : ℕ). n ≤ MAX_STEPS) shown.limit shown.bounded;
}

-- a step that a World made, with the steps before it
pub IsAnswer-made : (r : Identity) (old new : Progress) (p : ℕ) (move : Move) (done : Done) → IsShown r old
    → step_refusal old.trace.config old.limit old.trace.steps p move ≡ None → Some done.step ≡
    step_of old.trace.config old.trace.steps p move → new.trace.steps ≡ old.trace.steps ++ done.step ∷ [] → done.no ≡ length new.trace.steps
    → done.round ≡ passed new.trace.steps p + 1 → done.decision ≡ (node_at new.trace.config new.trace.steps p).decision
    → new.trace.config ≡ old.trace.config → (answer : IsAnswer r p move done) × (answer.before ≡ old.trace.steps)
IsAnswer-made r old new p move done shown allowed step made number round decision kept =
    let answer : IsAnswer r p move done = record {
      before = old.trace.steps;
      world = IsWorldOf-shown r old shown;
      allowed = subst (λ (m : Setup). step_refusal m r.limit old.trace.steps p move ≡ None) shown.config
          (subst (λ (n : ℕ). step_refusal old.trace.config n old.trace.steps p move ≡ None) shown.limit allowed);
      step = subst (λ (m : Setup). Some done.step ≡ step_of m old.trace.steps p move) shown.config step;
      number = number ∙ ap length made ∙ length_push old.trace.steps done.step;
      round = round ∙ ap (λ xs. passed xs p + 1) made;
      decision = decision ∙ ap (λ xs. (node_at new.trace.config xs p).decision) made
          ∙ ap (λ k. (node_at k (old.trace.steps ++ done.step ∷ []) p).decision) (kept ∙ shown.config);
    } in
    (answer, refl)

-- a refusal of a World, with the steps before it
pub IsAgainst-shown : (r : Identity) (w : Progress) (p : ℕ) (move : Move) (why : StepError) → IsShown r w → step_refusal
    w.trace.config w.limit w.trace.steps p move ≡ Some why → (against : IsAgainst r p move why) × (against.before ≡ w.trace.steps)
IsAgainst-shown r w p move why shown reason =
    let against : IsAgainst r p move why = record {
      before = w.trace.steps;
      world = IsWorldOf-shown r w shown;
      reason = subst (λ (m : Setup). step_refusal m r.limit w.trace.steps p move ≡ Some why) shown.config
          (subst (λ (n : ℕ). step_refusal w.trace.config n w.trace.steps p move ≡ Some why) shown.limit reason);
    } in
    (against, refl)
