-- What is known of the Receives after a step: at the end, and back over a step that is no Receive of a member.
use Rattle.std.proofs.Common.{ℕ, ◌≡◌, ◌+◌, ◌-◌, ◌≤◌, inl, inr, List, length, Some, IsTrue, refl, sym, ap, subst, ◌∙◌, arith, replicate}
use Rattle.std.specs.Prelude.{Contains}
use Rattle.std.proofs.lemmas.List.{length-replicate}
use Rattle.std.proofs.lemmas.Option.{same_Some}
use Rattle.std.proofs.lemmas.Bool.{cases_eq}
use Rattle.step_trace.proofs.StepPositions.{same_step, send_is_no_receive}
use Rattle.step_trace.proofs.MessageNotes.{get_or-zeros}
use Rattle.suffix_staircase.proofs.Common.{Send, Step, act_ids, has_proc, Recorded, step_at, TakesAt, IsReceiveOf}
use Rattle.suffix_staircase.proofs.Common.{IsSentTo, IsWellFormed, step_at_within, Receives, IsTaker, IsLastReceive}
use Rattle.suffix_staircase.proofs.Common.{IsFirstReceive, KnowsReceives}

-- after the last step there is no Receive
pub KnowsReceives-after_all : (set : ℕ) (t : Recorded) (r : Receives) → r.links.items ≡ replicate (length t.steps + 1) 0
    → r.first.items ≡ replicate (t.config.n + 1) 0 → r.last.items ≡ replicate (t.config.n + 1) 0
    → KnowsReceives set t (length t.steps) r
KnowsReceives-after_all set t r links first last = record {
  links_long = ap length links ∙ length-replicate (length t.steps + 1) 0;
  first_long = ap length first ∙ length-replicate (t.config.n + 1) 0;
  last_long = ap length last ∙ length-replicate (t.config.n + 1) 0;
  taken = λ s p member m. rw (links, get_or-zeros)
      (record { found = λ p. absurd (omega arith); none = λ z y l h. absurd (omega (arith, l, step_at_within t.steps y h.0 h.1)) });
  before = λ p y member receive l. absurd (let inside = step_at_within t.steps y _ receive.step in omega (arith, l, inside));
  clear = λ p y receive l. rw (links, get_or-zeros) refl;
  first = λ p h member. rw (first, get_or-zeros) (record {
    found = λ q. absurd (omega arith);
    first = λ y receive l. absurd (let inside = step_at_within t.steps y _ receive.step in omega (arith, l, inside));
  });
  last = λ p h member.
      rw (last, get_or-zeros) (record { found = λ q. absurd (omega arith); last = λ y receive l u. absurd (omega (arith, l, u)) });
}

-- a last Receive stays it back over a step that is no Receive of its processor
pub IsLastReceive-lower : (steps : List Step) (p x high r : ℕ)
    → 1 ≤ x → (IsReceiveOf steps x p → ⊥) → IsLastReceive steps p x high r → IsLastReceive steps p (x - 1) high r
IsLastReceive-lower steps p x high r low other l = record {
  found = λ h. let f = l.found h in (omega (arith, f.0), f.1, f.2);
  last = λ y receive a b. elim (cases_eq y x) [
    | inl e ↦ absurd (other (subst (λ (n : ℕ). IsReceiveOf steps n p) e receive))
    | inr n ↦ l.last y receive (omega (arith, a, n)) b
  ];
}

-- so does a first Receive
pub IsFirstReceive-lower : (steps : List Step) (p x r : ℕ)
    → 1 ≤ x → (IsReceiveOf steps x p → ⊥) → IsFirstReceive steps p x r → IsFirstReceive steps p (x - 1) r
IsFirstReceive-lower steps p x r low other l = record {
  found = λ h. let f = l.found h in (omega (arith, f.0), f.1);
  first = λ y receive a. elim (cases_eq y x) [
    | inl e ↦ absurd (other (subst (λ (n : ℕ). IsReceiveOf steps n p) e receive))
    | inr n ↦ l.first y receive (omega (arith, a, n))
  ];
}

-- the Receive that takes a message stays it back over a step that doesn't take it
pub IsTaker-lower : (steps : List Step) (x s place : ℕ)
    → 1 ≤ x → (TakesAt steps x s → ⊥) → IsTaker steps x s place → IsTaker steps (x - 1) s place
IsTaker-lower steps x s place low other l = record {
  found = λ h. let f = l.found h in (omega (arith, f.0), f.1);
  none = λ z y a. elim (cases_eq y x) [
    | inl e ↦ (λ t. other (subst (λ (n : ℕ). TakesAt steps n s) e t))
    | inr n ↦ l.none z y (omega (arith, a, n))
  ];
}

-- a Send takes no message
send_takes_none : (steps : List Step) (x a b s : ℕ) → step_at steps x ≡ Some (record { proc = a; act = Send b }) → TakesAt steps x s → ⊥
send_takes_none steps x a b s h t =
    let same : record { proc = a; act = Send b } ≡ t.0 = same_Some _ t.0 (sym h ∙ t.1) in
    let none = subst (λ (z : Step). Contains (act_ids z.act) s) (sym same) t.2 in
    omega (arith, none.1)

-- back over a step that takes no message to a member, and is no Receive of one, nothing changes
KnowsReceives-lower : (set : ℕ) (t : Recorded) (x : ℕ) (r : Receives)
    → 1 ≤ x → ((s p : ℕ) → IsTrue (has_proc set p) → IsSentTo t.steps s p → ¬ TakesAt t.steps x s)
    → ((p : ℕ) → IsTrue (has_proc set p) → ¬ IsReceiveOf t.steps x p) → KnowsReceives set t x r → KnowsReceives set t (x - 1) r
KnowsReceives-lower set t x r low untaken other k = record {
  links_long = k.links_long;
  first_long = k.first_long;
  last_long = k.last_long;
  taken = λ s p member m. IsTaker-lower t.steps x s _ low (untaken s p member m) (k.taken s p member m);
  before = λ p y member receive l. elim (cases_eq y x) [
    | inl e ↦ absurd (other p member (subst (λ (m : ℕ). IsReceiveOf t.steps m p) e receive))
    | inr ne ↦ IsLastReceive-lower t.steps p x y _ low (other p member) (k.before p y member receive (omega (arith, l, ne)))
  ];
  clear = λ p y receive l. k.clear p y receive (omega (arith, l));
  first = λ p c member. IsFirstReceive-lower t.steps p x _ low (other p member) (k.first p c member);
  last = λ p c member. IsLastReceive-lower t.steps p x _ _ low (other p member) (k.last p c member);
}

-- back over a Send nothing changes
pub KnowsReceives-send : (set : ℕ) (t : Recorded) (x a b : ℕ) (r : Receives)
    → step_at t.steps x ≡ Some (record { proc = a; act = Send b }) → KnowsReceives set t x r → KnowsReceives set t (x - 1) r
KnowsReceives-send set t x a b r h k = KnowsReceives-lower set t x r (step_at_within t.steps x _ h).0
    (λ s p member m. send_takes_none t.steps x a b s h) (λ p member. send_is_no_receive t.steps x a b p h) k

-- nor back over a step of a processor that is no member
pub KnowsReceives-other : (set : ℕ) (t : Recorded) (x : ℕ) (y : Step) (r : Receives) → IsWellFormed t.config t.steps
    → step_at t.steps x ≡ Some y → ¬ IsTrue (has_proc set y.proc) → KnowsReceives set t x r
    → KnowsReceives set t (x - 1) r
KnowsReceives-other set t x y r sound h other k =
    KnowsReceives-lower set t x r (step_at_within t.steps x y h).0
    (λ s p member m taken.
    let sent = (sound.earlier x s taken.0 taken.1 taken.2).1 in
    let same = ap (λ (z : Step). z.act) (same_step t.steps s _ _ sent.1 m.1) in
    let here = ap (λ (z : Step). z.proc) (same_step t.steps x _ _ h taken.1) in
    other cc)
    (λ p member receive.
    let here = ap (λ (z : Step). z.proc) (same_step t.steps x _ _ h receive.step) in
    other cc)
    k
