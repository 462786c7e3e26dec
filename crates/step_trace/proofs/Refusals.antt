-- What a step has if no reason holds against it.
use Rattle.std.proofs.Common.{ℕ, ◌≡◌, ◌+◌, ◌<◌, inl, inr, List, [], ◌∷◌, length, Option, Some, None, Bool, true, false, not, refl, ap, subst, suc, zero, arith}
use Rattle.std.specs.Prelude.{Contains, nat_lt, ◌&&◌, find, cond}
use Rattle.std.specs.Option.{option_map_or}
use Rattle.std.specs.List.Sorted.{IsStrictlyIncreasing}
use Rattle.std.proofs.lemmas.Bool.{not-false}
use Rattle.std.proofs.lemmas.Bool.Decides.{nat_tests}
use Rattle.step_trace.specs.declared.traces.TheConstants.{MAX_STEPS}
use Rattle.step_trace.specs.declared.traces.PushError.{PushError}
use Rattle.step_trace.specs.declared.steps.Act.{Act}
use Rattle.step_trace.specs.declared.steps.Act.TheVariants.{Send, Receive}
use Rattle.step_trace.specs.declared.steps.Step.{Step}
use Rattle.step_trace.specs.Configurations.{Setup, IsProc, is_proc}
use Rattle.step_trace.specs.Steps.{act_ids, act_sends_to}
use Rattle.step_trace.specs.Traces.{step_at}
use Rattle.step_trace.specs.PushRefusals.{is_taken, is_message, is_sent_to, is_rising, is_rising_from, refusal, act_refusal, first_id}
use Rattle.step_trace.proofs.ListMembers.{Contains-nil, Contains-cons_cases}
use Rattle.step_trace.proofs.FittingSteps.{Fits}

-- a reason that doesn't hold was passed
pub cond_none : {E : Type 0} (b : Bool) (o : Option E) (e : E) → cond b o (Some e) ≡ None → (b ≡ true) × (o ≡ None)
cond_none true o e h = (refl, h)
cond_none false o e h = cc

-- and so it is for a test the other way round
pub cond_some_none : {E : Type 0} (b : Bool) (o : Option E) (e : E) → cond b (Some e) o ≡ None → (b ≡ false) × (o ≡ None)
cond_some_none true o e h = cc
cond_some_none false o e h = (refl, h)

-- no id gives a reason, and neither does what comes after
pub first_id_none : (o : Option ℕ) (why : ℕ → PushError) (next : Option PushError) → first_id o why next ≡ None → (o ≡ None) × (next ≡ None)
first_id_none None why next h = (refl, h)
first_id_none (Some s) why next h = cc

-- if nothing is found all elements fail
pub find_all : {X : Type 0} (p : X → Bool) (xs : List X) → find p xs ≡ None → (x : X) → Contains xs x → p x ≡ false
find_all p [] h x d = absurd (Contains-nil x d)
find_all p (y ∷ ys) h x d =
    let e = cond_some_none (p y) (find p ys) y h in
    elim (Contains-cons_cases y x ys d) [ inl q ↦ subst (λ z. p z ≡ false) q e.0 | inr m ↦ find_all p ys e.1 x m ]

-- ids that rise by the test do so by the definition
rising_from : (x : ℕ) (xs : List ℕ) → is_rising_from x xs ≡ true → IsStrictlyIncreasing (x ∷ xs)
rising_from x [] h k l = absurd (omega arith)
rising_from x (y ∷ ys) h zero l = step (nat_lt x y) (is_rising_from y ys) refl h where
  step : (b d : Bool) → nat_lt x y ≡ b → (b && d) ≡ true → x < y
  step true d e h = grind (arith, nat_tests)
  step false d e h = cc
rising_from x (y ∷ ys) h (suc k) l =
    let e : suc k + 1 ≡ suc (k + 1) = omega arith in
    let m : k + 1 < length (y ∷ ys) = omega arith in
    rw e (rising_from y ys (rest (nat_lt x y) (is_rising_from y ys) h) k m) where
      rest : (b d : Bool) → (b && d) ≡ true → d ≡ true
      rest true d h = h
      rest false d h = cc

-- and so it is for a whole list
pub is_rising-true : (xs : List ℕ) → is_rising xs ≡ true → IsStrictlyIncreasing xs
is_rising-true [] h = λ k l. absurd (omega arith)
is_rising-true (x ∷ xs) h = rising_from x xs h

-- the test of processors is their definition
pub proc_from : (c : Setup) (p : ℕ) → is_proc c p ≡ true → IsProc c p
proc_from c p h = (grind (arith, nat_tests), grind (arith, nat_tests))

-- an act that sends to p is a Send to p
send_from : (a : Act) (p : ℕ) → act_sends_to a p ≡ true → a ≡ Send p
send_from (Send to) p h = ap (λ (q : ℕ). Send q) (grind (arith, nat_tests))
send_from (Receive ends ids) p h = cc

-- a step that sends to p is a Send to p of somebody
pub sent_from : (o : Option Step) (p : ℕ) → option_map_or (λ x. act_sends_to x.act p) o false ≡ true
    → (a : ℕ) × (o ≡ Some (record { proc = a; act = Send p }))
sent_from None p h = absurd (let e : false ≡ true = h in cc)
sent_from (Some x) p h = (x.proc, ap (λ (a : Act). let y : Step = record { proc = x.proc; act = a } in Some y) (send_from x.act p h))

-- a step fits without a reason against its act, and no message that it takes was sent in its tick
pub Fits-from_act : (c : Setup) (steps : List Step) (now : ℕ → Bool) (p : ℕ) (a : Act)
    → nat_lt (length steps) MAX_STEPS ≡ true → is_proc c p ≡ true
    → act_refusal c steps now p a ≡ None → Fits c steps (record { proc = p; act = a }) × ((s : ℕ) → Contains (act_ids a) s → now s ≡ false)
Fits-from_act c steps now p (Send to) room proc h = (
  record {
    room = grind (arith, nat_tests);
    proc = proc_from c p proc;
    dest = proc_from c to (cond_none (is_proc c to) None _ h).0;
    rising = λ k l. absurd (omega arith);
    sent = λ s d. absurd (Contains-nil s d);
    fresh = λ s d. absurd (Contains-nil s d);
  },
  λ s d. absurd (Contains-nil s d),
)
Fits-from_act c steps now p (Receive ends ids) room proc h =
    let r = cond_none (is_rising ids) _ _ h in
    let u = first_id_none (find (λ s. not (is_message steps s)) ids) _ _ r.1 in
    let a = first_id_none (find (λ s. not (is_sent_to steps s p)) ids) _ _ u.1 in
    let n = first_id_none (find now ids) _ _ a.1 in
    let t = first_id_none (find (is_taken steps) ids) _ _ n.1 in (
      record {
        room = grind (arith, nat_tests);
        proc = proc_from c p proc;
        dest = tt;
        rising = is_rising-true ids r.0;
        sent = λ s d. sent_from (step_at steps s) p
            (not-false (is_sent_to steps s p) (find_all (λ s. not (is_sent_to steps s p)) ids a.0 s d));
        fresh = find_all (is_taken steps) ids t.0;
      },
      find_all now ids n.0,
    )

-- a step without a reason against it fits
pub Fits-from_none : (c : Setup) (steps : List Step) (x : Step) → refusal c steps x ≡ None → Fits c steps x
Fits-from_none c steps x h =
    let r = cond_none (nat_lt (length steps) MAX_STEPS) _ _ h in
    let p = cond_none (is_proc c x.proc) _ _ r.1 in
    (Fits-from_act c steps (λ s. false) x.proc x.act r.0 p.0 p.1).0
