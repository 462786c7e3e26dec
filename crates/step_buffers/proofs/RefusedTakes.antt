-- What a Receive takes out of a buffer, if nothing is against it: ids that rise, of messages that wait. And the
-- message that it is refused for.
use Rattle.std.proofs.Common.{ℕ, zero, suc, ◌≡◌, ◌<◌, List, [], ◌∷◌, length, take, Option, Some, None, Bool, true, false, not, cond, ◌&&◌, inl, inr, refl, subst, arith}
use Rattle.step_buffers.proofs.Common.{find_all, is_rising-true, MAX_STEPS, Receive, Step, Setup, IsProc, is_proc}
use Rattle.step_buffers.proofs.Common.{is_rising, refusal, IsLeastFailing, none_from_Fits, StepError, Full, BadProc}
use Rattle.step_buffers.proofs.Common.{NothingToSend, StillSending, IdsNotRising, NotInBuffer, Take, All, Nothing}
use Rattle.step_buffers.proofs.Common.{Oldest, These, IsDue, buffer, is_in, taken_ids, take_refusal, IsStepRefusal}
use Rattle.step_buffers.proofs.Common.{named_ids, next_send, move_refusal, step_refusal, found, failing}
use Rattle.std.specs.Prelude.{Contains, find, nat_lt, is_some, option_map, is_none}
use Rattle.std.specs.List.Sorted.{IsStrictlyIncreasing}
use Rattle.std.proofs.lemmas.Bool.{not-false}
use Rattle.std.proofs.lemmas.Option.{none-some, same_Some}
use Rattle.step_trace.proofs.ListMembers.{Contains-nil, Contains-head, Contains-rest, Contains-cons_cases}
use Rattle.step_buffers.proofs.RemovedIds.{rising-take, Contains-from_is_in}
use Rattle.step_buffers.proofs.BufferSteps.{buffer-rises, IsWaiting-from_buffer}
use Rattle.step_buffers.specs.declared.moves.Move.{Move}
use Rattle.step_buffers.specs.declared.moves.Move.TheVariants.{Send as SendMove, Receive as ReceiveMove}

-- the first ones are among all
Contains-take : (n : ℕ) (xs : List ℕ) (s : ℕ) → Contains (take n xs) s → Contains xs s
Contains-take zero xs s d = absurd (Contains-nil s d)
Contains-take (suc n) [] s d = d
Contains-take (suc n) (x ∷ xs) s d = elim (Contains-cons_cases x s (take n xs) d) [
  | inl e ↦ subst (Contains (x ∷ xs)) e (Contains-head x xs)
  | inr e ↦ Contains-rest x s xs (Contains-take n xs s e)
]

-- if none is missing all are there
none_missing : (waiting ids : List ℕ) (s : ℕ) → find (λ i. not (is_in waiting i)) ids ≡ None → Contains ids s
    → Contains waiting s
none_missing waiting ids s h d =
    Contains-from_is_in waiting s (not-false (is_in waiting s) (find_all (λ i. not (is_in waiting i)) ids h s d))

-- ids that may be taken out of a buffer: they rise and wait there
record AreTakeable (waiting ids : List ℕ) : Type 0 where
  pub rising : IsStrictlyIncreasing ids
  pub waits : (s : ℕ) → Contains ids s → Contains waiting s

AreTakeable-these : (waiting ids : List ℕ)
    → cond (is_rising ids) (option_map (λ s. NotInBuffer s) (find (λ s. not (is_in waiting s)) ids)) (Some IdsNotRising) ≡ None
    → AreTakeable waiting ids
AreTakeable-these waiting ids h = go (is_rising ids) refl (find (λ s. not (is_in waiting s)) ids) refl h
  where
    go : (b : Bool) → is_rising ids ≡ b → (o : Option ℕ) → find (λ s. not (is_in waiting s)) ids ≡ o
        → cond {A = Option StepError} b (option_map (λ s. NotInBuffer s) o) (Some IdsNotRising) ≡ None
        → AreTakeable waiting ids
    go false e o f h = cc
    go true e (Some s) f h = cc
    go true e None f h = record { rising = is_rising-true ids e; waits = λ s d. none_missing waiting ids s f d }

AreTakeable-from_none : (chosen : Take) (waiting : List ℕ) → IsStrictlyIncreasing waiting
    → take_refusal chosen waiting ≡ None → AreTakeable waiting (taken_ids chosen waiting)
AreTakeable-from_none All waiting rise h = record { rising = rise; waits = λ s d. d }
AreTakeable-from_none Nothing waiting rise h =
    record { rising = λ k l. absurd (omega arith); waits = λ s d. absurd (Contains-nil s d) }
AreTakeable-from_none (Oldest n) waiting rise h =
    record { rising = rising-take waiting n rise; waits = λ s d. Contains-take n waiting s d }
AreTakeable-from_none (These ids) waiting rise h = AreTakeable-these waiting ids.now h

-- so nothing is against a Receive of them
pub refusal-taken : (c : Setup) (steps : List Step) (p : ℕ) (ends : Bool) (chosen : Take) → length steps < MAX_STEPS
    → IsProc c p → take_refusal chosen (buffer steps p) ≡ None
    → refusal c steps (record { proc = p; act = Receive ends (taken_ids chosen (buffer steps p)) }) ≡ None
refusal-taken c steps p ends chosen room is h =
    let may = AreTakeable-from_none chosen (buffer steps p) (buffer-rises steps p) h in
    none_from_Fits c steps (record { proc = p; act = Receive ends (taken_ids chosen (buffer steps p)) }) (record {
      room = room;
      proc = is;
      dest = tt;
      rising = may.rising;
      sent = λ s d. let w = IsWaiting-from_buffer steps p s (may.waits s d) in (w.sender, w.sent);
      fresh = λ s d. (IsWaiting-from_buffer steps p s (may.waits s d)).fresh;
    })

-- a reason against taking them is answered unchanged, since out of memory is none
pub IsStepRefusal-take : (chosen : Take) (waiting : List ℕ) (why : StepError) → take_refusal chosen waiting ≡ Some why
    → IsStepRefusal why (Some why)
IsStepRefusal-take All waiting why h = absurd (none-some why h)
IsStepRefusal-take Nothing waiting why h = absurd (none-some why h)
IsStepRefusal-take (Oldest n) waiting why h = absurd (none-some why h)
IsStepRefusal-take (These ids) waiting why h = go (is_rising ids.now) (find (λ s. not (is_in waiting s)) ids.now) h
  where
    go : (b : Bool) (o : Option ℕ)
        → cond {A = Option StepError} b (option_map (λ s. NotInBuffer s) o) (Some IdsNotRising) ≡ Some why
        → IsStepRefusal why (Some why)
    go false o e = subst (λ (z : StepError). IsStepRefusal z (Some z)) (same_Some IdsNotRising why e) refl
    go true None e = absurd (none-some why e)
    go true (Some s) e = subst (λ (z : StepError). IsStepRefusal z (Some z)) (same_Some (NotInBuffer s) why e) refl

-- and it is due if it ends no round too early
pub IsDue-received : (next : Option ℕ) (ends : Bool) (ids : List ℕ) (other : Option StepError)
    → cond (ends && is_some next) (Some StillSending) other ≡ None → IsDue next (Receive ends ids)
IsDue-received next false ids other h = tt
IsDue-received None true ids other h = refl
IsDue-received (Some to) true ids other h = cc

-- among ids that are to be taken
least-these : (waiting ids : List ℕ) (s : ℕ) (rising : Bool) (missing : Option ℕ) → is_rising ids ≡ rising
    → find (λ i. not (is_in waiting i)) ids ≡ missing
    → cond {A = Option StepError} rising (option_map (λ i. NotInBuffer i) missing) (Some IdsNotRising)
    ≡ Some (NotInBuffer s)
    → IsLeastFailing (is_in waiting) ids s
least-these waiting ids s true (Some i) r f h = failing (is_in waiting) ids s
    (found _ ids s (is_rising-true ids r) (let e : i ≡ s = cc in subst (λ n. find (λ i. not (is_in waiting i)) ids ≡ Some n) e f))
least-these waiting ids s true None r f h = cc
least-these waiting ids s false missing r f h = cc

-- so of a move
least-move : (c : Setup) (steps : List Step) (p : ℕ) (move : Move) (s : ℕ)
    → move_refusal c steps p move ≡ Some (NotInBuffer s) → IsLeastFailing (is_in (buffer steps p)) (named_ids move) s
least-move c steps p SendMove s h = go (is_none (next_send c steps p)) h
  where
    go : (b : Bool) → cond {A = Option StepError} b (Some NothingToSend) None ≡ Some (NotInBuffer s)
        → IsLeastFailing (is_in (buffer steps p)) [] s
    go true f = cc
    go false f = cc
least-move c steps p (ReceiveMove taken ends) s h = go (ends && is_some (next_send c steps p)) taken h
  where
    go : (b : Bool) (taken : Take)
        → cond b (Some StillSending) (take_refusal taken (buffer steps p)) ≡ Some (NotInBuffer s)
        → IsLeastFailing (is_in (buffer steps p)) (named_ids (ReceiveMove taken ends)) s
    go true taken f = cc
    go false All f = cc
    go false Nothing f = cc
    go false (Oldest n) f = cc
    go false (These ids) f = least-these (buffer steps p) ids.now s _ _ refl refl f

-- and of a World
pub least-missing : (c : Setup) (limit : ℕ) (steps : List Step) (p : ℕ) (move : Move) (s : ℕ)
    → step_refusal c limit steps p move ≡ Some (NotInBuffer s)
    → IsLeastFailing (is_in (buffer steps p)) (named_ids move) s
least-missing c limit steps p move s h = go (nat_lt (length steps) limit) (is_proc c p) h
  where
    go : (room is : Bool)
        → cond room (cond is (move_refusal c steps p move) (Some BadProc)) (Some Full) ≡ Some (NotInBuffer s)
        → IsLeastFailing (is_in (buffer steps p)) (named_ids move) s
    go true true f = least-move c steps p move s f
    go true false f = cc
    go false is f = cc

-- what is taken, if nothing is against a Receive
pub take_refusal-none : (early : Bool) (o : Option StepError) → cond early (Some StillSending) o ≡ None → o ≡ None
take_refusal-none true o h = cc
take_refusal-none false o h = h
