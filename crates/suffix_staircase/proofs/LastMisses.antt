-- The last Receive that misses a message, by its number.
use Rattle.std.proofs.Common.{ℕ, ◌≡◌, ◌+◌, ◌<◌, ◌≤◌, ◌==◌, inl, inr, List, length, get_or, set, Some, Bool, true, false, cond, refl, ap, subst, ◌∙◌, arith}
use Rattle.std.specs.Prelude.{Contains}
use Rattle.std.proofs.lemmas.Bool.{cases_lt, eqb-true, eqb-false}
use Rattle.step_trace.proofs.StepPositions.{same_step}
use Rattle.suffix_staircase.proofs.Common.{Act, Send, Receive, Step, Setup, act_ids, Recorded, step_at, TakesAt}
use Rattle.suffix_staircase.proofs.Common.{IsReceiveOf, IsWellFormed, IsMessage, step_at_within, Receives, last_missed}
use Rattle.suffix_staircase.proofs.Common.{IsLastReceive, KnowsReceives, IsDeliveredByNumber, IsMissByNumber}
use Rattle.suffix_staircase.proofs.Common.{IsLastMissByNumber}

-- who takes a message is its receiver
pub taker_receives : (c : Setup) (steps : List Step) (x b place : ℕ) (a : ℕ) → IsWellFormed c steps
    → step_at steps x ≡ Some (record { proc = a; act = Send b }) → TakesAt steps place x → IsReceiveOf steps place b
taker_receives c steps x b place a w h t = go t.0.act refl t.2 where
  proc : t.0.proc ≡ b
  proc = let sent = (w.earlier place x t.0 t.1 t.2).1 in
      let same = ap (λ (z : Step). z.act) (same_step steps x _ _ sent.1 h) in
      cc

  go : (act : Act) → t.0.act ≡ act → Contains (act_ids act) x → IsReceiveOf steps place b
  go (Send q) e m = absurd (let l = m.1 in omega arith)
  go (Receive ends ids) e m = record {
    ids = ids;
    ends = ends;
    step = t.1 ∙ ap (λ (v : Act). let z : Step = record { proc = t.0.proc; act = v } in Some z) e
        ∙ ap (λ (q : ℕ). let z : Step = record { proc = q; act = Receive ends ids } in Some z) proc;
  }

-- a message has one receiver
pub message_unique : (set : ℕ) (steps : List Step) (x a b q : ℕ)
    → step_at steps x ≡ Some (record { proc = a; act = Send b }) → IsMessage set steps x q → q ≡ b
message_unique set steps x a b q h m =
    let same = ap (λ (z : Step). z.act) (same_step steps x _ _ m.sent h) in
    cc

-- the bounds between which the misses of a message lie
IsLastMissByNumber-from_last : (set : ℕ) (steps : List Step) (x b high r : ℕ) → IsMessage set steps x b
    → (IsDeliveredByNumber steps x r → r < high → ⊥)
    → ((y : ℕ) → IsMissByNumber set steps (record { sent = x; missed = y }) → y < high) → IsLastReceive steps b x high r
    → IsLastMissByNumber set steps x r
IsLastMissByNumber-from_last set steps x b high r m undelivered below l = record {
  found = λ h. let f = l.found h in record { to = b; message = m; receive = f.2; late = f.0; undelivered = λ d. undelivered d f.1 };
  last = λ y i. l.last y (subst (λ (q : ℕ). IsReceiveOf steps y q) (message_unique set steps x _ b _ m.sent i.message) i.receive) i.late
      (below y i);
}

-- the last miss of a message is in the notes
pub IsLastMissByNumber-from_known : (set : ℕ) (t : Recorded) (x b : ℕ) (r : Receives) → IsWellFormed t.config t.steps
    → b ≤ t.config.n → IsMessage set t.steps x b → KnowsReceives set t x r → IsLastMissByNumber set t.steps x (last_missed r x b)
IsLastMissByNumber-from_known set t x b r w within m k = go (get_or r.links.items x 0 == 0) refl where
  go : (none : Bool) → (get_or r.links.items x 0 == 0) ≡ none
      → IsLastMissByNumber set t.steps x (cond none (get_or r.last.items b 0) (get_or r.links.items (get_or r.links.items x 0) 0))
  go true e =
      let none : get_or r.links.items x 0 ≡ 0 = eqb-true _ _ e in
      IsLastMissByNumber-from_last set t.steps x b (length t.steps + 1) (get_or r.last.items b 0) m
      (λ d l. (k.taken x b m.receiver (m.from, m.sent)).none none d.place d.after d.takes)
      (λ y i. let inside = step_at_within t.steps y _ i.receive.step in omega (arith, inside))
      (k.last b within m.receiver)
  go false e =
      let some = eqb-false _ _ e in
      let f = (k.taken x b m.receiver (m.from, m.sent)).found
      (let positive : 0 < get_or r.links.items x 0 = omega (arith, some) in positive) in
      IsLastMissByNumber-from_last set t.steps x b (get_or r.links.items x 0) (get_or r.links.items (get_or r.links.items x 0) 0) m
      (λ d l. omega (arith, w.once d.place (get_or r.links.items x 0) x d.takes f.1, d.until, l))
      (λ y i. elim (cases_lt y (get_or r.links.items x 0)) [
        | inl l ↦ l
        | inr late ↦ absurd (i.undelivered (record { place = get_or r.links.items x 0; after = f.0; until = late; takes = f.1 }))
      ])
      (k.before b (get_or r.links.items x 0) m.receiver (taker_receives t.config t.steps x b _ _ w m.sent f.1) f.0)
