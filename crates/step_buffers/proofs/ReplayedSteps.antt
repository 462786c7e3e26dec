-- Steps of a trace that are made again: what a run implies for its last step, and as many as were made are the first
-- ones.
use Rattle.std.proofs.Common.{ℕ, suc, Result, Ok, Err, ◌≡◌, ◌+◌, ◌-◌, ◌<◌, List, [], ◌∷◌, ◌++◌, length, Option, Some}
use Rattle.std.proofs.Common.{None, Bool, true, false, cond, not, ◌&&◌, refl, sym, ap, subst, arith, eq-eqb, inl, inr}
use Rattle.std.proofs.Common.{take, drop, ◌∙◌}
use Rattle.step_trace.proofs.StepPrefixes.{step_at-prefix_old, IsWellFormed-prefix}
use Rattle.step_buffers.proofs.HeardSenders.{Contains-numbers}
use Rattle.std.specs.Prelude.{Contains, find, is_some, option_map, IfOk, OnOk, slice_get, IfErr}
use Rattle.std.specs.declared.alloc.AllocError.{AllocError}
use Rattle.std.proofs.lemmas.Bool.{lt-ltb, not_from_true}
use Rattle.step_buffers.proofs.Common.{Send, Receive, Step, Setup, is_proc, IsSentTo, step_at, is_rising, is_taken}
use Rattle.step_buffers.proofs.Common.{step_at_last, step_at_within, Fits-from_well_formed, is_proc-true}
use Rattle.step_buffers.proofs.Common.{is_rising-from_increasing, find-none, Contains-filter, Take, StepError}
use Rattle.step_buffers.proofs.Common.{IdsNotRising, NotInBuffer, numbers, waits_for, buffer, next_send, is_in}
use Rattle.step_buffers.proofs.Common.{take_refusal, step_refusal, IsStepRefusal, due_for}
use Rattle.step_buffers.specs.declared.moves.Move.TheVariants as move
use Rattle.step_buffers.specs.Runs.{next_destination, IsDue, IsRun}
use Rattle.step_buffers.proofs.GrownNodes.{next_destination-prefix, IsRun-prefix, IsRun-push}
use Rattle.step_buffers.proofs.RemovedIds.{is_in-member}
use Rattle.std.proofs.lemmas.Option.{none-some, slice_get_within, slice_get_cases, get_or_from_slice_get}
use Rattle.std.proofs.lemmas.List.{length-append, length_push, take_all, take-append-le, take-append-drop}
use Rattle.std.proofs.Math.Seq.{take-suc}
use Rattle.step_buffers.specs.declared.dues.Due.{Due}
use Rattle.step_buffers.specs.declared.replays.ReplayError.{ReplayError}
use Rattle.step_buffers.specs.declared.replays.ReplayError.TheVariants.{NotARun, Memory}
use Rattle.step_buffers.specs.Replays.{IsReplayRefusal}

-- the last step of a run is due
pub IsDue-from_run : (c : Setup) (steps : List Step) (x : Step) → IsRun c (steps ++ x ∷ []) → IsDue (next_send c steps x.proc) x.act
IsDue-from_run c steps x run =
    let w = IsWellFormed-prefix c steps (x ∷ []) run.well_formed in
    let place : suc (length steps) ≡ length steps + 1 = omega arith in
    let here : IsDue (next_destination c steps x.proc (suc (length steps))) x.act =
    subst (λ next. IsDue next x.act) (sym (next_destination-prefix c steps (x ∷ []) x.proc (suc (length steps)) w (omega arith)))
    (run.each (suc (length steps)) x (step_at_last steps x)) in
    subst (λ n. IsDue (next_destination c steps x.proc n) x.act) place here

-- so a Receive of a run ends no round too early
pub not_early-from_run : (c : Setup) (steps : List Step) (p : ℕ) (ends : Bool) (ids : List ℕ)
    → IsRun c (steps ++ record { proc = p; act = Receive ends ids } ∷ []) → (ends && is_some (next_send c steps p)) ≡ false
not_early-from_run c steps p ends ids run = go ends (IsDue-from_run c steps (record { proc = p; act = Receive ends ids }) run)
  where
    go : (b : Bool) → IsDue (next_send c steps p) (Receive b ids) → (b && is_some (next_send c steps p)) ≡ false
    go false due = refl
    go true due = ap is_some due

-- a message to p that no step took is in its buffer
Contains-buffer : (steps : List Step) (p s : ℕ) → IsSentTo steps s p → is_taken steps s ≡ false → Contains (buffer steps p) s
Contains-buffer steps p s sent fresh =
    let b = step_at_within steps s (record { proc = sent.0; act = Send p }) sent.1 in
    Contains-filter (λ i. waits_for steps p i) (numbers steps) s
    (Contains-numbers steps s b.0 b.1) (rw (sent.1, eq-eqb p p refl, fresh) refl)

-- and takes rising ids of messages that wait
pub takes-from_run : (c : Setup) (steps : List Step) (p : ℕ) (ends : Bool) (ids : List ℕ)
    → IsRun c (steps ++ record { proc = p; act = Receive ends ids } ∷ []) → cond {A = Option StepError}
    (is_rising ids) (option_map (λ s. NotInBuffer s) (find (λ s. not (is_in (buffer steps p) s)) ids)) (Some IdsNotRising) ≡ None
takes-from_run c steps p ends ids run =
    let fits = Fits-from_well_formed c steps (record { proc = p; act = Receive ends ids }) run.well_formed in
    let waits = find-none (λ s. not (is_in (buffer steps p) s)) ids
    (λ s d. not_from_true _ (is_in-member (buffer steps p) s (Contains-buffer steps p s (fits.sent s d) (fits.fresh s d)))) in
    rw (is_rising-from_increasing ids fits.rising, waits) refl

-- with room no reason holds against it
is_proc-from_run : (c : Setup) (steps : List Step) (x : Step) → IsRun c (steps ++ x ∷ []) → is_proc c x.proc ≡ true
is_proc-from_run c steps x run = is_proc-true c x.proc (Fits-from_well_formed c steps x run.well_formed).proc

pub step_refusal-send : (c : Setup) (limit : ℕ) (steps : List Step) (p to : ℕ)
    → length steps < limit → IsRun c (steps ++ record { proc = p; act = Send to } ∷ []) → step_refusal c limit steps p move.Send ≡ None
step_refusal-send c limit steps p to room run =
    let x : Step = record { proc = p; act = Send to } in
    rw (lt-ltb (length steps) limit room, is_proc-from_run c steps x run, IsDue-from_run c steps x run) refl

pub step_refusal-receive : (c : Setup) (limit : ℕ) (steps : List Step) (p : ℕ) (taken : Take) (ends : Bool) (ids : List ℕ) → length steps
    < limit → IsRun c (steps ++ record { proc = p; act = Receive ends ids } ∷ []) → take_refusal taken (buffer steps p) ≡ None
    → step_refusal c limit steps p (move.Receive taken ends) ≡ None
step_refusal-receive c limit steps p taken ends ids room run none =
    let x : Step = record { proc = p; act = Receive ends ids } in
    rw (lt-ltb (length steps) limit room, is_proc-from_run c steps x run, not_early-from_run c steps p ends ids run) none

-- so if a reason holds against a step, the steps with it are no run
pub off-from_refusal : (made : Result Bool AllocError) (why : StepError) (refusal : Option StepError) (Run : Type 0)
    → OnOk made (¬ IsStepRefusal why None) → IsStepRefusal why refusal → (Run → refusal ≡ None) → IfOk made (λ is. is ≡ false → ¬ Run)
off-from_refusal (Ok is) why refusal Run h r none = λ off run. h (subst (IsStepRefusal why) (none run) r)
off-from_refusal (Err e) why refusal Run h r none = tt

-- one step more of the first ones
take-next : (steps : List Step) (n : ℕ) (x : Step) → step_at steps (n + 1) ≡ Some x → take (n + 1) steps ≡ take n steps ++ x ∷ []
take-next steps n x h =
    let e : n + 1 ≡ suc n = omega arith in
    let at : slice_get steps n ≡ Some x = subst (λ k. step_at steps k ≡ Some x) e h in
    rw e (take-suc steps n x (slice_get_within steps n x at) ∙ ap (λ y. take n steps ++ y ∷ []) (get_or_from_slice_get steps n x x at))

pub made-next : (steps made : List Step) (x : Step) → made ≡ take (length made) steps → step_at steps (length made + 1) ≡ Some x
    → made ++ x ∷ [] ≡ take (length (made ++ x ∷ [])) steps
made-next steps made x first h = rw (length_push made x) (ap (λ m. m ++ x ∷ []) first ∙ sym (take-next steps (length made) x h))

-- if there is no further one they are all
pub made-all : (steps made : List Step) → made ≡ take (length made) steps → step_at steps (length made + 1) ≡ None → made ≡ steps
made-all steps made first h = elim (slice_get_cases steps (length made)).1 [
  | inl some ↦ absurd (none-some some.0 (sym none ∙ some.2))
  | inr past ↦ first ∙ take_all (length made) steps past.0
]
  where
    none : slice_get steps (length made) ≡ None
    none = let e : length made + 1 ≡ suc (length made) = omega arith in subst (λ k. step_at steps k ≡ None) e h

-- a step that isn't due is refused, and the refusal names what was due
pub IsReplayRefusal-off : (c : Setup) (steps : List Step) (x : Step) (n : ℕ) (due : Due)
    → IsRun c steps → n ≡ length steps + 1 → ¬ IsRun c (steps ++ x ∷ [])
    → due.proc ≡ x.proc → due.what ≡ due_for (next_send c steps x.proc) x.act → IsReplayRefusal c (steps ++ x ∷ []) (NotARun n due)
IsReplayRefusal-off c steps x n due run last off proc what = (
  record {
    positive = omega (arith, last);
    within = (let more : length (steps ++ x ∷ []) ≡ length steps + 1 = length_push steps x in omega (arith, last));
    before = rw fewer run;
    off = rw whole off;
  },
  record {
    step = x;
    at = subst (λ k. step_at (steps ++ x ∷ []) k ≡ Some x)
        (let e : suc (length steps) ≡ n = omega (arith, last) in e) (step_at_last steps x);
    proc = proc;
    what = rw fewer what;
    undue = λ w due_now. off (IsRun-push c steps x run (rw whole at w) (rw fewer at due_now));
  },
)
  where
    fewer : take (n - 1) (steps ++ x ∷ []) ≡ steps
    fewer =
        ap (λ k. take k (steps ++ x ∷ [])) (let e : n - 1 ≡ length steps = omega (arith, last) in e)
        ∙ take-append-le (length steps) steps (x ∷ []) (omega arith)
        ∙ take_all (length steps) steps (omega arith)

    whole : take n (steps ++ x ∷ []) ≡ steps ++ x ∷ []
    whole = take_all n (steps ++ x ∷ []) (let more : length (steps ++ x ∷ []) ≡ length steps + 1 = length_push steps x in
        omega (arith, last))

-- what is refused of the first steps is refused of all
IsReplayRefusal-longer : (c : Setup) (steps more : List Step) (e : ReplayError)
    → IsReplayRefusal c steps e → IsReplayRefusal c (steps ++ more) e
IsReplayRefusal-longer c steps more Memory h = tt
IsReplayRefusal-longer c steps more (NotARun n due) h = (
  record {
    positive = h.0.positive;
    within = (let w = h.0.within in let l : length (steps ++ more) ≡ length steps + length more = length-append steps more in omega arith);
    before = rw fewer h.0.before;
    off = rw (take-append-le n steps more h.0.within) h.0.off;
  },
  record {
    step = h.1.step;
    at = step_at-prefix_old steps more n h.1.step h.1.at;
    proc = h.1.proc;
    what = rw fewer h.1.what;
    undue = rw (fewer, take-append-le n steps more h.0.within) h.1.undue;
  },
)
  where
    fewer : take (n - 1) (steps ++ more) ≡ take (n - 1) steps
    fewer = take-append-le (n - 1) steps more (let w = h.0.within in omega arith)

pub IsReplayRefusal-next : (c : Setup) (steps made : List Step) (x : Step) (e : ReplayError) → made ≡ take (length made) steps
    → step_at steps (length made + 1) ≡ Some x → IsReplayRefusal c (made ++ x ∷ []) e → IsReplayRefusal c steps e
IsReplayRefusal-next c steps made x e first h refused =
    let n = length (made ++ x ∷ []) in
    let all : (made ++ x ∷ []) ++ drop n steps ≡ steps = ap (λ front. front ++ drop n steps) (made-next steps made x first h)
    ∙ take-append-drop n steps in
    subst (λ xs. IsReplayRefusal c xs e) all (IsReplayRefusal-longer c (made ++ x ∷ []) (drop n steps) e refused)

-- a run is refused only if out of memory
memory-from_refusal : (c : Setup) (steps : List Step) (e : ReplayError) → IsReplayRefusal c steps e → IsRun c steps → e ≡ Memory
memory-from_refusal c steps Memory h run = refl
memory-from_refusal c steps (NotARun n due) h run =
    absurd (h.0.off (IsRun-prefix c (take n steps) (drop n steps) (rw (take-append-drop n steps) run)))

pub memory-from_run : {X : Type 0} (c : Setup) (steps : List Step) (r : Result X ReplayError)
    → IfErr r (λ e. IsReplayRefusal c steps e) → IsRun c steps → IfErr r (λ e. e ≡ Memory)
memory-from_run c steps (Ok x) h run = tt
memory-from_run c steps (Err e) h run = memory-from_refusal c steps e h run
