-- What is known of the Receives up to a step, on over one step more.
use Rattle.std.proofs.Common.{ℕ, ◌≡◌, ◌≢◌, ◌+◌, ◌-◌, ◌<◌, ◌≤◌, ◌==◌, inl, inr, List, length, get_or, set}
use Rattle.std.proofs.Common.{Some, Bool, true, false, cond, refl, sym, ap, subst, ◌∙◌, arith, get_or-set_same}
use Rattle.std.proofs.Common.{get_or-set_other}
use Rattle.std.specs.Prelude.{Contains}
use Rattle.std.specs.List.{list_any}
use Rattle.std.proofs.lemmas.List.{length-set}
use Rattle.std.proofs.lemmas.Bool.{cases_eq}
use Rattle.step_trace.proofs.StepPositions.{same_step, receive_unique}
use Rattle.step_trace.specs.MessageNotes.{AreNoted}
use Rattle.certificate_checker.proofs.Common.{Send, Receive, Step, act_ids, Recorded, step_at, TakesAt, IsReceiveOf}
use Rattle.certificate_checker.proofs.Common.{IsWellFormed, Contains-from_takes, act_takes-from_Contains, UNTAKEN}
use Rattle.certificate_checker.proofs.Common.{Receives, IsLastBefore, KnowsReceives}

-- a last Receive stays it after a step that is no Receive of its processor
IsLastBefore-later : (steps : List Step) (p x r : ℕ)
    → (IsReceiveOf steps x p → ⊥) → IsLastBefore steps p x r → IsLastBefore steps p (x + 1) r
IsLastBefore-later steps p x r other l = record {
  found = λ h. let f = l.found h in (let below = f.0 in omega (arith, below), f.1);
  last = λ y receive below. elim (cases_eq y x) [
    | inl e ↦ absurd (other (subst (λ (k : ℕ). IsReceiveOf steps k p) e receive))
    | inr e ↦ l.last y receive (omega (arith, e, below))
  ];
}

-- and after a Receive of its processor that Receive is the last
IsLastBefore-here : (steps : List Step) (p x : ℕ) → IsReceiveOf steps x p → IsLastBefore steps p (x + 1) x
IsLastBefore-here steps p x receive = record {
  found = λ h. (omega arith, receive);
  last = λ y other below. omega (arith, below);
}

-- over a step that takes nothing, and is no Receive, nothing changes
pub KnowsReceives-send : (t : Recorded) (x a b : ℕ) (r : Receives)
    → 1 ≤ x → step_at t.steps x ≡ Some (record { proc = a; act = Send b }) → KnowsReceives t (x - 1) r → KnowsReceives t x r
KnowsReceives-send t x a b r low h k =
    let next : x - 1 + 1 ≡ x = omega arith in
    record {
      before_long = k.before_long;
      last_long = k.last_long;
      taken = λ j s within takes. elim (cases_eq j x) [
        | inl e ↦ absurd (let same = same_step t.steps x _ _ (subst (λ (i : ℕ). step_at t.steps i ≡ Some takes.0) e takes.1) h in
            let none = subst (λ (z : Step). Contains (act_ids z.act) s) same takes.2 in
            omega (arith, none.1))
        | inr e ↦ k.taken j s (omega (arith, e, within)) takes
      ];
      known = λ s some within. (let f = k.known s some within in let u = f.2 in (f.0, f.1, omega (arith, u)));
      last = λ p within. IsLastBefore-later t.steps p x _ (λ receive.
          let same = ap (λ (z : Step). z.act) (same_step t.steps x _ _ receive.step h) in
          cc) (rw next at k.last p within);
    }

-- whether a Receive takes a message, by the test that the notes use
takes_id : (t : Recorded) (x p s : ℕ) (ids : List ℕ) (ends : Bool)
    → step_at t.steps x ≡ Some (record { proc = p; act = Receive ends ids }) → list_any (λ i. i == s) ids ≡ true → TakesAt t.steps x s
takes_id t x p s ids ends h e = (record { proc = p; act = Receive ends ids }, h, Contains-from_takes (Receive ends ids) s e)

id_taken : (t : Recorded) (x p s : ℕ) (ids : List ℕ) (ends : Bool)
    → step_at t.steps x ≡ Some (record { proc = p; act = Receive ends ids }) → TakesAt t.steps x s → list_any (λ i. i == s) ids ≡ true
id_taken t x p s ids ends h takes =
    let same = same_step t.steps x _ _ takes.1 h in
    act_takes-from_Contains (Receive ends ids) s (subst (λ (z : Step). Contains (act_ids z.act) s) same takes.2)

-- the note of a message that some step up to x takes
taken_of : (t : Recorded) (x p s j : ℕ) (ids : List ℕ) (ends : Bool) (old : Receives)
    → IsWellFormed t.config t.steps → p ≤ t.config.n → 1 ≤ x → step_at t.steps x ≡ Some (record { proc = p; act = Receive ends ids })
    → KnowsReceives t (x - 1) old → j ≤ x → (takes : TakesAt t.steps j s) → (b : Bool) → list_any (λ i. i == s) ids ≡ b
    → IsLastBefore t.steps takes.0.proc j (cond b (get_or old.last.items p 0) (get_or old.before.items s 0))
taken_of t x p s j ids ends old w within low h k u takes true e =
    let next : x - 1 + 1 ≡ x = omega arith in
    let here : j ≡ x = w.once j x s takes (takes_id t x p s ids ends h e) in
    let same = same_step t.steps x _ _ (subst (λ (i : ℕ). step_at t.steps i ≡ Some takes.0) here takes.1) h in
    let proc : takes.0.proc ≡ p = ap (λ (z : Step). z.proc) same in
    subst (λ (q : ℕ). IsLastBefore t.steps q j (get_or old.last.items p 0)) (sym proc)
    (subst (λ (i : ℕ). IsLastBefore t.steps p i (get_or old.last.items p 0)) (sym here) (rw next at k.last p within))
taken_of t x p s j ids ends old w within low h k u takes false e = elim (cases_eq j x) [
  | inl here ↦ absurd
      (let some = id_taken t x p s ids ends h (takes.0, subst (λ (i : ℕ). step_at t.steps i ≡ Some takes.0) here takes.1, takes.2) in cc)
  | inr other ↦ k.taken j s (omega (arith, other, u)) takes
]

-- a message of which a note is kept is taken
known_of : (t : Recorded) (x p s : ℕ) (ids : List ℕ) (ends : Bool) (old : Receives) → 1 ≤ x
    → step_at t.steps x ≡ Some (record { proc = p; act = Receive ends ids }) → KnowsReceives t (x - 1) old
    → s ≤ length t.steps → (b : Bool) → list_any (λ i. i == s) ids ≡ b
    → cond b (get_or old.last.items p 0) (get_or old.before.items s 0) ≢ UNTAKEN
    → (j : ℕ) × TakesAt t.steps j s × (j ≤ x)
known_of t x p s ids ends old low h k within true e some = (x, takes_id t x p s ids ends h e, omega arith)
known_of t x p s ids ends old low h k within false e some = let f = k.known s some within in let u = f.2 in (f.0, f.1, omega (arith, u))

-- over a Receive the notes of the messages that it takes, and of its processor, are right again
pub KnowsReceives-receive : (t : Recorded) (x p : ℕ) (ids : List ℕ) (ends : Bool) (old new : Receives) → IsWellFormed t.config t.steps
    → p ≤ t.config.n → 1 ≤ x → step_at t.steps x ≡ Some (record { proc = p; act = Receive ends ids }) → KnowsReceives t (x - 1) old
    → length new.before.items ≡ length old.before.items → AreNoted (get_or old.last.items p 0) ids old.before.items new.before.items
    → new.last.items ≡ set old.last.items p x → KnowsReceives t x new
KnowsReceives-receive t x p ids ends old new w within low h k long notes lasts =
    let next : x - 1 + 1 ≡ x = omega arith in
    let receive : IsReceiveOf t.steps x p = record { ids = ids; ends = ends; step = h } in
    record {
      before_long = long ∙ k.before_long;
      last_long = ap length lasts ∙ length-set old.last.items p x ∙ k.last_long;
      taken = λ j s u takes. subst (λ (r : ℕ). IsLastBefore t.steps takes.0.proc j r)
          (sym (notes s)) (taken_of t x p s j ids ends old w within low h k u takes (list_any (λ i. i == s) ids) refl);
      known = λ s some u. known_of t x p s ids ends old low h k u (list_any (λ i. i == s) ids) refl (λ e. some (notes s ∙ e));
      last = λ q u. rw lasts (elim (cases_eq q p) [
        | inl e ↦ (let l = k.last_long in let inside : p < length old.last.items = omega (arith, l, within) in
            subst (λ (m : ℕ). IsLastBefore t.steps m (x + 1) (get_or (set old.last.items p x) m 0))
            (sym e) (rw get_or-set_same (IsLastBefore-here t.steps p x receive)))
        | inr e ↦ (let apart : q ≢ p = e in
            rw get_or-set_other
            (IsLastBefore-later t.steps q x _ (λ r. e (receive_unique t.steps x q p r receive)) (rw next at k.last q u)))
      ]);
    }
