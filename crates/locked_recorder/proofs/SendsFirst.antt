-- A Send, if sends come first and there is something to send, and else a move: what a World answers.
use Rattle.std.proofs.Common.{ℕ, ◌≡◌, Bool, true, false, Option, Some, None, is_none, if◌then◌else◌, nat_lt, List, length, refl, sym, ap, subst, ◌∙◌}
use Rattle.step_trace.specs.Configurations.{Setup, is_proc}
use Rattle.step_trace.specs.declared.steps.Step.{Step}
use Rattle.step_buffers.specs.declared.moves.Done.{Done}
use Rattle.step_buffers.specs.declared.moves.Move.{Move}
use Rattle.step_buffers.specs.declared.moves.Move.TheVariants.{Send}
use Rattle.step_buffers.specs.declared.moves.StepError.{StepError}
use Rattle.step_buffers.specs.declared.moves.StepError.TheVariants.{Full, BadProc, NothingToSend, Memory}
use Rattle.step_buffers.specs.Progress.{Progress}
use Rattle.step_buffers.specs.Moves.{next_send, move_refusal, step_refusal, IsStepRefusal}
use Rattle.locked_recorder.specs.Recordings.{IsAnswer, IsAgainst}
use Rattle.locked_recorder.specs.declared.errors.RecordError.{RecordError}
use Rattle.locked_recorder.specs.declared.errors.RecordError.TheVariants as record_error
use Rattle.locked_recorder.specs.Seats.{Turns, with_done}
use Rattle.locked_recorder.specs.Recorders.{Identity}
use Rattle.locked_recorder.specs.Choices.{chosen, IsChosen, IsChosenAgainst, IsChosenAnswer, IsChosenStepReason, IsChoiceRefused, IsChoiceRefusal}
use Rattle.locked_recorder.proofs.Answered.{IsShown, IsAgainst-shown}

-- the first reason against a move, if the reason against it alone is `own`
abbrev reason : Bool → Bool → Option StepError → Option StepError
reason has_room is_there own = if has_room then (if is_there then own else Some BadProc) else Some Full

-- if p has nothing to send, no Send is allowed
no_send : (c : Setup) (limit : ℕ) (steps : List Step) (p : ℕ) → next_send c steps p ≡ None → step_refusal c limit steps p Send ≡ None → ⊥
no_send c limit steps p = go (nat_lt (length steps) limit) (is_proc c p) (next_send c steps p)
  where
    go : (a b : Bool) (to : Option ℕ) → to ≡ None → reason a b (if is_none to then Some NothingToSend else None) ≡ None → ⊥
    go true true None is h = cc
    go true true (Some to) is h = cc
    go true false to is h = cc
    go false b to is h = cc

-- a Send is refused with NothingToSend only if p has nothing to send
nothing_to_send : (c : Setup) (limit : ℕ) (steps : List Step) (p : ℕ)
    → step_refusal c limit steps p Send ≡ Some NothingToSend → next_send c steps p ≡ None
nothing_to_send c limit steps p = go (nat_lt (length steps) limit) (is_proc c p) (next_send c steps p)
  where
    go : (a b : Bool) (to : Option ℕ) → reason a b (if is_none to then Some NothingToSend else None) ≡ Some NothingToSend → to ≡ None
    go true true None h = refl
    go true true (Some to) h = cc
    go true false to h = cc
    go false b to h = cc

-- the same of a World that is unchanged since before it refused the Send
pub nothing_to_send_after : (r : Identity) (old w : Progress) (p : ℕ) (why : StepError) → w ≡ old → IsShown r w → why ≡ NothingToSend
    → IsStepRefusal why (step_refusal old.trace.config old.limit old.trace.steps p Send) → next_send r.config w.trace.steps p ≡ None
nothing_to_send_after r old w p why same shown is refused =
    let there : step_refusal old.trace.config old.limit old.trace.steps p Send ≡ Some NothingToSend =
    subst (λ (e : StepError). IsStepRefusal e (step_refusal old.trace.config old.limit old.trace.steps p Send)) is refused in
    let here : step_refusal w.trace.config w.limit w.trace.steps p Send ≡ Some NothingToSend =
    subst (λ (v : Progress). step_refusal v.trace.config v.limit v.trace.steps p Send ≡ Some NothingToSend) (sym same) there in
    subst (λ (m : Setup). next_send m w.trace.steps p ≡ None) shown.config (nothing_to_send w.trace.config w.limit w.trace.steps p here)

-- if another reason than NothingToSend holds against a Send of p, it holds against each move of p
any_move : (c : Setup) (limit : ℕ) (steps : List Step) (p : ℕ) (move : Move) (why : StepError) → (why ≡ NothingToSend → ⊥)
    → step_refusal c limit steps p Send ≡ Some why → step_refusal c limit steps p move ≡ Some why
any_move c limit steps p move why other = go (nat_lt (length steps) limit) (is_proc c p) (next_send c steps p) (move_refusal c steps p move)
  where
    go : (a b : Bool) (to : Option ℕ) (own : Option StepError)
        → reason a b (if is_none to then Some NothingToSend else None) ≡ Some why → reason a b own ≡ Some why
    go true true None own h = absurd (other (cc))
    go true true (Some to) own h = cc
    go true false to own h = h
    go false b to own h = h

-- the reason against the first move that is tried, unless that is a Send with nothing to send
pub IsChosenStepReason-first : (r : Identity) (w : Progress) (p : ℕ) (sends : Bool) (step : Move) (why : StepError) → IsShown r w
    → (sends ≡ true → why ≡ NothingToSend → ⊥) → IsStepRefusal why
    (step_refusal w.trace.config w.limit w.trace.steps p (if sends then Send else step)) → IsChosenStepReason r p (chosen sends step) why
IsChosenStepReason-first r w p sends step Memory shown other h = tt
IsChosenStepReason-first r w p sends step why shown other h =
    by_choice sends other (IsAgainst-shown r w p (if sends then Send else step) why shown h).0 where
      by_choice : (sends : Bool) → (sends ≡ true → why ≡ NothingToSend → ⊥)
          → IsAgainst r p (if sends then Send else step) why → IsChosenAgainst r p (chosen sends step) why
      by_choice false other against = record { to = next_send r.config against.before p; against = against; next = refl }
      by_choice true other against =
          let to = next_send r.config against.before p in
          record {
            to = to;
            against = record {
              before = against.before;
              world = against.world;
              reason = any_move r.config r.limit against.before p (chosen true step to) why (other refl) against.reason;
            };
            next = refl;
          }

-- this move, refused if there is nothing to send
pub IsChosenStepReason-otherwise : (r : Identity) (w : Progress) (p : ℕ) (step : Move) (why : StepError)
    → IsShown r w → next_send r.config w.trace.steps p ≡ None
    → IsStepRefusal why (step_refusal w.trace.config w.limit w.trace.steps p step) → IsChosenStepReason r p (chosen true step) why
IsChosenStepReason-otherwise r w p step Memory shown nothing h = tt
IsChosenStepReason-otherwise r w p step why shown nothing h =
    let against = IsAgainst-shown r w p step why shown h in
    record {
      to = None;
      against = against.0;
      next = ap (λ steps. next_send r.config steps p) against.1 ∙ nothing;
    }

-- the first move that is tried was made
pub IsChosenAnswer-first : (r : Identity) (p : ℕ) (sends : Bool) (step : Move) (done : Done)
    → IsAnswer r p (if sends then Send else step) done → IsChosenAnswer r p (chosen sends step) done
IsChosenAnswer-first r p false step done answer = record { to = next_send r.config answer.before p; answer = answer; next = refl }
IsChosenAnswer-first r p true step done answer = go (next_send r.config answer.before p) refl
  where
    go : (to : Option ℕ) → next_send r.config answer.before p ≡ to → IsChosenAnswer r p (chosen true step) done
    go None next = absurd (no_send r.config r.limit answer.before p next answer.allowed)
    go (Some to) next = record { to = Some to; answer = answer; next = next }

-- this move was made if there is nothing to send
pub IsChosenAnswer-otherwise : (r : Identity) (p : ℕ) (step : Move) (done : Done) (steps : List Step) → next_send r.config steps p ≡ None
    → (answer : IsAnswer r p step done) × (answer.before ≡ steps) → IsChosenAnswer r p (chosen true step) done
IsChosenAnswer-otherwise r p step done steps nothing made =
    record { to = None; answer = made.0; next = ap (λ (before : List Step). next_send r.config before p) made.1 ∙ nothing }

-- what a seat keeps of either
pub IsChosen-kept : (r : Identity) (p : ℕ) (choice : Option ℕ → Move) (old new : Turns) (done : Done)
    → old.proc ≡ p → new ≡ with_done old done → IsChosenAnswer r p choice done → IsChosen r choice old new
IsChosen-kept r p choice old new done own kept answer =
    record { done = done; appended = kept; answer = subst (λ (q : ℕ). IsChosenAnswer r q choice done) (sym own) answer }

-- a refusal, asked for by a seat
pub IsChoiceRefusal-refused : (r : Identity) (s : Turns) (p : ℕ) (choice : Option ℕ → Move) (why : RecordError) → s.proc ≡ p → s.tag ≡ r.tag
    → IsChoiceRefused r p choice why → IsChoiceRefusal r s choice why
IsChoiceRefusal-refused r s p choice record_error.ForeignSeat own tag refused = tt
IsChoiceRefusal-refused r s p choice (record_error.Step why) own tag refused =
    (tag, subst (λ (q : ℕ). IsChosenStepReason r q choice why) (sym own) refused)
