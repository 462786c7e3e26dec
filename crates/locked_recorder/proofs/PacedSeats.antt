-- A seat from which steps are made by a pace.
use Rattle.std.proofs.Common.{ℕ, ◌≡◌, ◌+◌, ◌<◌, List, [], ◌∷◌, ◌++◌, length, Some, None, Bool, true, false, nat_lt, if◌then◌else◌, refl, sym, ap, ◌∙◌, subst, arith}
use Rattle.std.proofs.lemmas.List.{append-nil, append_assoc, length_push}
use Rattle.step_trace.specs.Configurations.{Setup, IsProc, is_proc}
use Rattle.step_trace.specs.declared.steps.Step.{Step}
use Rattle.step_trace.proofs.Refusals.{proc_from}
use Rattle.step_buffers.specs.declared.moves.Done.{Done}
use Rattle.step_buffers.specs.declared.moves.Move.{Move}
use Rattle.step_buffers.specs.declared.moves.StepError.{StepError}
use Rattle.step_buffers.specs.declared.moves.StepError.TheVariants.{Full, BadProc, Memory}
use Rattle.step_buffers.specs.Progress.{Progress}
use Rattle.step_buffers.specs.Moves.{move_refusal, step_refusal, IsStepRefusal}
use Rattle.deciding_runs.specs.Paces.{Paced, opening_pace, paced_move, after_move}
use Rattle.locked_recorder.specs.declared.errors.DriveStop.TheVariants.{Record}
use Rattle.locked_recorder.specs.declared.errors.RecordError.{RecordError}
use Rattle.locked_recorder.specs.declared.errors.RecordError.TheVariants as record_error
use Rattle.locked_recorder.specs.Seats.{Turns, with_done}
use Rattle.locked_recorder.specs.Recorders.{Identity}
use Rattle.locked_recorder.specs.Recordings.{IsAnswer}
use Rattle.locked_recorder.specs.PacedDrives.{IsPacedAnswer, IsPacedAgainst, IsPacedStepReason, IsPaceRefused, IsPaceRefusal, IsPacedStep, WerePaced, IsPacedDrive, IsPacedStopped}
use Rattle.locked_recorder.proofs.Answered.{IsShown, IsAgainst-shown}

-- a move of a processor that isn't there is refused as any other move of it
any_move : (c : Setup) (limit : ℕ) (steps : List Step) (p : ℕ) (one other : Move)
    → is_proc c p ≡ false → step_refusal c limit steps p one ≡ step_refusal c limit steps p other
any_move c limit steps p one other nobody = rw nobody refl

-- and there is a reason against it
refused_anyhow : (c : Setup) (limit : ℕ) (steps : List Step) (p : ℕ) (move : Move)
    → is_proc c p ≡ false → step_refusal c limit steps p move ≡ None → ⊥
refused_anyhow c limit steps p move nobody = go (nat_lt (length steps) limit) (is_proc c p) nobody
  where
    go : (room there : Bool)
        → there ≡ false → (if room then (if there then move_refusal c steps p move else Some BadProc) else Some Full) ≡ None → ⊥
    go true true is h = cc
    go true false is h = cc
    go false there is h = cc

-- The move of p by its pace in a World, as it shows under the lock: of a processor that is there.
pub record IsPacedMove (w : Progress) (p : ℕ) (pace after : Paced) (move : Move) : Type 0 where
  pub moved : IsProc w.trace.config p → move ≡ paced_move w.trace.config w.trace.steps p pace
  pub noted : IsProc w.trace.config p → after ≡ after_move w.trace.config w.trace.steps p pace

-- what a World answered to it
pub IsPacedAnswer-made : (r : Identity) (w : Progress) (p : ℕ) (pace after : Paced) (move : Move) (done : Done)
    → IsShown r w → IsPacedMove w p pace after move → step_refusal w.trace.config w.limit w.trace.steps p move ≡ None
    → (answer : IsAnswer r p move done) × (answer.before ≡ w.trace.steps) → IsPacedAnswer r p pace after done
IsPacedAnswer-made r w p pace after move done shown is allowed made = go (is_proc w.trace.config p) refl
  where
    go : (b : Bool) → is_proc w.trace.config p ≡ b → IsPacedAnswer r p pace after done
    go false nobody = absurd (refused_anyhow w.trace.config w.limit w.trace.steps p move nobody allowed)
    go true there =
        let proc = proc_from w.trace.config p there in
        record {
          move = move;
          answer = made.0;
          moved = subst (λ c. move ≡ paced_move c made.0.before p pace) shown.config
              (subst (λ xs. move ≡ paced_move w.trace.config xs p pace) (sym made.1) (is.moved proc));
          noted = subst (λ c. after ≡ after_move c made.0.before p pace) shown.config
              (subst (λ xs. after ≡ after_move w.trace.config xs p pace) (sym made.1) (is.noted proc));
        }

-- and why it refused it
pub IsPacedStepReason-shown : (r : Identity) (w : Progress) (p : ℕ) (pace after : Paced) (move : Move) (why : StepError)
    → IsShown r w → IsPacedMove w p pace after move
    → IsStepRefusal why (step_refusal w.trace.config w.limit w.trace.steps p move) → IsPacedStepReason r p pace why
IsPacedStepReason-shown r w p pace after move Memory shown is h = tt
IsPacedStepReason-shown r w p pace after move why shown is h = against (is_proc w.trace.config p) refl h
  where
    of_mine : step_refusal w.trace.config w.limit w.trace.steps p (paced_move w.trace.config w.trace.steps p pace) ≡ Some why
        → IsPacedAgainst r p pace why
    of_mine reason =
        let found = IsAgainst-shown r w p (paced_move w.trace.config w.trace.steps p pace) why shown reason in
        record {
          move = paced_move w.trace.config w.trace.steps p pace;
          against = found.0;
          moved = ap (λ c. paced_move c w.trace.steps p pace) shown.config ∙ ap (λ xs. paced_move r.config xs p pace) (sym found.1);
        }

    against : (b : Bool) → is_proc w.trace.config p ≡ b
        → step_refusal w.trace.config w.limit w.trace.steps p move ≡ Some why → IsPacedAgainst r p pace why
    against false nobody reason =
        of_mine (any_move w.trace.config w.limit w.trace.steps p (paced_move w.trace.config w.trace.steps p pace) move nobody ∙ reason)
    against true there reason = of_mine
        (subst (λ m. step_refusal w.trace.config w.limit w.trace.steps p m ≡ Some why) (is.moved (proc_from w.trace.config p there)) reason)

-- what a seat keeps of an answer
pub IsPacedStep-kept : (r : Identity) (p : ℕ) (pace after : Paced) (old new : Turns) (done : Done) → old.proc ≡ p → new ≡ with_done old done
    → IsPacedAnswer r p pace after done → IsPacedStep r pace after old new
IsPacedStep-kept r p pace after old new done own kept answer =
    record { done = done; appended = kept; answer = subst (λ (q : ℕ). IsPacedAnswer r q pace after done) (sym own) answer }

-- a refusal, asked for by a seat
pub IsPaceRefusal-refused : (r : Identity) (s : Turns) (p : ℕ) (pace : Paced) (why : RecordError)
    → s.proc ≡ p → s.tag ≡ r.tag → IsPaceRefused r p pace why → IsPaceRefusal r s pace why
IsPaceRefusal-refused r s p pace record_error.ForeignSeat own tag refused = tt
IsPaceRefusal-refused r s p pace (record_error.Step why) own tag refused =
    (tag, subst (λ (q : ℕ). IsPacedStepReason r q pace why) (sym own) refused)

-- one thing more was done
WerePaced-push : (r : Identity) (p : ℕ) (pace : Paced) (more : List Done) (mid after : Paced) (done : Done)
    → WerePaced r p pace more mid → IsPacedAnswer r p mid after done → WerePaced r p pace (more ++ done ∷ []) after
WerePaced-push r p pace [] mid after done were answer = (after, subst (λ x. IsPacedAnswer r p x after done) were answer, refl)
WerePaced-push r p pace (d ∷ more) mid after done were answer =
    (were.0, were.1, WerePaced-push r p were.0 more mid after done were.2 answer)

-- a seat after so many steps, with its pace at that time
pub record IsPacedUnderWay (r : Identity) (patience steps : ℕ) (pace : Paced) (old new : Turns) : Type 0 where
  pub driven : IsPacedDrive r patience steps old new
  pub now : pace ≡ driven.after

-- no step is made
pub IsPacedUnderWay-none : (r : Identity) (patience : ℕ) (s : Turns) (pace : Paced)
    → pace ≡ opening_pace r.config patience → IsPacedUnderWay r patience 0 pace s s
IsPacedUnderWay-none r patience s pace first = record {
  driven = record {
    more = [];
    count = refl;
    appended = ap (λ done. record s { done = done }) (sym (append-nil s.done));
    after = opening_pace r.config patience;
    paced = refl;
    tag = λ positive. absurd (omega arith);
  };
  now = first;
}

-- one step more is made
pub IsPacedUnderWay-more : (r : Identity) (patience steps : ℕ) (pace after : Paced) (old mid new : Turns) → IsPacedUnderWay r
    patience steps pace old mid → mid.tag ≡ r.tag → IsPacedStep r pace after mid new → IsPacedUnderWay r patience (steps + 1) after old new
IsPacedUnderWay-more r patience steps pace after old mid new so tagged moved =
    let driven = so.driven in
    let more = driven.more in
    let done = moved.done in
    let tag : mid.tag ≡ old.tag = ap (λ (s : Turns). s.tag) driven.appended in
    let proc : mid.proc ≡ old.proc = ap (λ (s : Turns). s.proc) driven.appended in
    let answer : IsPacedAnswer r old.proc driven.after after done =
    subst (λ x. IsPacedAnswer r old.proc x after done) so.now (subst (λ p. IsPacedAnswer r p pace after done) proc moved.answer) in
    record {
      driven = record {
        more = more ++ done ∷ [];
        count = length_push more done ∙ ap (λ n. n + 1) driven.count;
        appended = moved.appended ∙ ap (λ (s : Turns). with_done s done) driven.appended
            ∙ ap (λ all. record old { done = all }) (append_assoc old.done more (done ∷ []));
        after = after;
        paced = WerePaced-push r old.proc (opening_pace r.config patience) more driven.after after done driven.paced answer;
        tag = λ _. sym tag ∙ tagged;
      };
      now = refl;
    }

-- the next step is refused
pub IsPacedStopped-refused : (r : Identity) (patience steps made : ℕ) (pace : Paced) (old new : Turns) (why : RecordError) → made < steps
    → IsPacedUnderWay r patience made pace old new
    → IsPaceRefusal r new pace why → IsPacedStopped r patience steps old new (record { made = made; why = Record why })
IsPacedStopped-refused r patience steps made pace old new why short so refused = record {
  driven = so.driven;
  stop = (short, subst (λ x. IsPaceRefusal r new x why) so.now refused);
}
