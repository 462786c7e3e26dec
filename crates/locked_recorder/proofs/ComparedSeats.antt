-- Seats that are compared with one step more of a trace.
use Rattle.std.proofs.Common.{ℕ, suc, Some, None, Option, ◌≡◌, ◌≢◌, ◌==◌, ◌+◌, ◌<◌, List, length, take, get_or, set, Bool, true, false, refl, sym, ap, subst, ◌∙◌, arith}
use Rattle.std.proofs.lemmas.Bool.Decides.{nat_tests}
use Rattle.std.proofs.lemmas.Option.{slice_get_within}
use Rattle.std.proofs.lemmas.List.{take_all, length-take, get_or-take, length-set, get_or-set_same, get_or-set_other, get_or_default}
use Rattle.step_trace.specs.declared.steps.Step.{Step}
use Rattle.step_trace.specs.Configurations.{Setup}
use Rattle.step_trace.specs.Traces.{step_at}
use Rattle.locked_recorder.specs.Audits.{done_last, all_done, done_of, Agrees, AgreeWith, AreInOrder, IsFirstWithout}
use Rattle.locked_recorder.specs.Seats.{Turns}
use Rattle.locked_recorder.specs.Comparisons.{IsCompared, AreCompared, IsNextAgreed, IsWhole, AreWhole}
use Rattle.locked_recorder.proofs.DoneOf.{done_of-all_done, done_of-next, done_of-other, next-of_done_of}
use Rattle.locked_recorder.proofs.DoneSteps.{length-all_done, done_last-at}
use Rattle.locked_recorder.proofs.SeatOrder.{place-in_order}

-- the seat of another processor is unchanged
other : (c : Setup) (steps : List Step) (n : ℕ) (x : Step) (s : Turns) (m : Option ℕ)
    → step_at steps (suc n) ≡ Some x → (x.proc ≡ s.proc → ⊥) → IsCompared c steps n s m → IsCompared c steps (n + 1) s m
other c steps n x s (Some k) at off so =
    let d = done_last c (take (n + 1) steps) x in
    let within : n < length steps = slice_get_within steps n x at in
    let inside : n < length (all_done c steps) = omega (arith, length-all_done c steps) in
    (done_of-other (all_done c steps) s.proc n d inside (sym (done_last-at c steps n x d at)) off ∙ so.0, so.1)
other c steps n x s None at off so = so

-- the seat of its processor has one thing more that agrees, or differs
own : (c : Setup) (steps : List Step) (n : ℕ) (x : Step) (s : Turns) (m next : Option ℕ) → step_at steps (suc n) ≡ Some x → x.proc ≡ s.proc
    → IsNextAgreed s.done (done_last c (take (n + 1) steps) x) m next → IsCompared c steps n s m → IsCompared c steps (n + 1) s next
own c steps n x s (Some k) (Some j) at mine agreed so =
    let d = done_last c (take (n + 1) steps) x in
    let within : n < length steps = slice_get_within steps n x at in
    let inside : n < length (all_done c steps) = omega (arith, length-all_done c steps) in
    let there = slice_get_within s.done k d agreed.0 in
    rw agreed.1
    (done_of-next (all_done c steps) s.done s.proc n k d inside (sym (done_last-at c steps n x d at)) mine so.0 agreed.0, omega arith)
own c steps n x s (Some k) None at mine differs so =
    let d = done_last c (take (n + 1) steps) x in
    let within : n < length steps = slice_get_within steps n x at in
    let inside : n < length (all_done c steps) = omega (arith, length-all_done c steps) in
    λ agrees. differs
    (next-of_done_of (all_done c steps) s.done s.proc n k d inside
    (sym (done_last-at c steps n x d at)) mine so.0 so.1 (agrees ∙ sym (done_of-all_done c steps s.proc)))
own c steps n x s None (Some j) at mine none so = absurd (cc none)
own c steps n x s None None at mine none so = so

-- nothing is compared yet
pub AreCompared-none : (c : Setup) (steps : List Step) (seats : List Turns) (agreed : List (Option ℕ)) → length agreed ≡ length seats
    → ((i : ℕ) (m : Option ℕ) → i < length agreed → get_or agreed i m ≡ Some 0) → AreCompared c steps 0 seats agreed
AreCompared-none c steps seats agreed count zeros = record {
  count = count;
  each = λ i s m l. rw (zeros i m (omega arith)) (refl, omega arith);
}

-- one step more is compared
pub AreCompared-more : (c : Setup) (steps : List Step) (n : ℕ) (x : Step) (seats : List Turns)
    (agreed : List (Option ℕ)) (i : ℕ) (s : Turns) (m next : Option ℕ) → AreInOrder c seats → step_at steps (suc n) ≡ Some x
    → AreCompared c steps n seats agreed → x.proc ≡ i + 1 → i < length seats → s ≡ get_or seats i s → m ≡ get_or agreed i m
    → IsNextAgreed s.done (done_last c (take (n + 1) steps) x) m next → AreCompared c steps (n + 1) seats (set agreed i next)
AreCompared-more c steps n x seats agreed i s m next order at so place inside is_seat is_agreed step = record {
  count = length-set agreed i next ∙ so.count;
  each = λ j t u l. go j t u l (j == i) refl;
}
  where
    go : (j : ℕ) (t : Turns) (u : Option ℕ) → j < length seats
        → (b : Bool) → (j == i) ≡ b → IsCompared c steps (n + 1) (get_or seats j t) (get_or (set agreed i next) j u)
    go j t u l true e =
        let same : j ≡ i = grind (arith, nat_tests) in
        let long = so.count in
        let seat : get_or seats i t ≡ s = get_or_default seats i t s inside ∙ sym is_seat in
        let proc : x.proc ≡ s.proc = place ∙ sym (ap (λ (y : Turns). y.proc) is_seat ∙ place-in_order c seats i s order inside) in
        let written : get_or (set agreed i next) i u ≡ next = get_or-set_same agreed i next u (omega arith) in
        let before : IsCompared c steps n s m = rw (is_seat, is_agreed) (so.each i s m inside) in
        rw (same, seat, written) (own c steps n x s m next at proc step before)
    go j t u l false e =
        let differs : j ≢ i = grind (arith, nat_tests) in
        let own_place = place-in_order c seats j t order l in
        let off : x.proc ≡ (get_or seats j t).proc → ⊥ = λ h. differs (omega arith) in
        rw (get_or-set_other agreed i j next u differs) (other c steps n x (get_or seats j t) (get_or agreed j u) at off (so.each j t u l))

-- after all steps a seat agrees with the trace where all that it did agrees, and nowhere else
agrees : (c : Setup) (steps : List Step) (s : Turns) (m : Option ℕ) → IsCompared c steps (length steps) s m → IsWhole s m → Agrees c steps s
agrees c steps s m so whole =
    let is = subst (λ (o : Option ℕ). IsCompared c steps (length steps) s o) whole so in
    let all = all_done c steps in
    let long = length-all_done c steps in
    sym (take_all (length s.done) s.done (omega arith))
    ∙ sym is.0 ∙ ap (λ ds. done_of ds s.proc) (take_all (length steps) all (omega arith)) ∙ done_of-all_done c steps s.proc

is_whole : (c : Setup) (steps : List Step) (s : Turns) (m : Option ℕ)
    → IsCompared c steps (length steps) s m → Agrees c steps s → IsWhole s m
is_whole c steps s (Some k) so same =
    let all = all_done c steps in
    let long = length-all_done c steps in
    let cut : s.done ≡ take k s.done = same ∙ sym (done_of-all_done c steps s.proc)
    ∙ ap (λ ds. done_of ds s.proc) (sym (take_all (length steps) all (omega arith))) ∙ so.0 in
    let short = so.1 in
    let count : k ≡ length s.done = omega (arith, ap length cut, length-take k s.done) in
    ap Some count
is_whole c steps s None so same = absurd (so same)

-- so all seats agree, or this is the first that doesn't
pub AgreeWith-whole : (c : Setup) (steps : List Step) (seats : List Turns) (agreed : List (Option ℕ))
    → AreCompared c steps (length steps) seats agreed → AreWhole seats agreed (length seats) → AgreeWith c steps seats
AgreeWith-whole c steps seats agreed so whole = λ i s l.
    agrees c steps (get_or seats i s) (get_or agreed i None) (so.each i s None l) (whole i s None l)

pub IsFirstWithout-whole : (c : Setup) (steps : List Step) (seats : List Turns) (agreed : List (Option ℕ)) (k : ℕ)
    → AreCompared c steps (length steps) seats agreed → k < length seats → AreWhole seats agreed k
    → ((s : Turns) (m : Option ℕ) → ¬ IsWhole (get_or seats k s) (get_or agreed k m)) → IsFirstWithout (λ s. Agrees c steps s) seats k
IsFirstWithout-whole c steps seats agreed k so inside before differs = record {
  within = inside;
  before = λ i s l. at i s (omega (arith, l, length-take k seats));
  without = λ s e. differs s None (is_whole c steps (get_or seats k s) (get_or agreed k None) (so.each k s None inside) e);
}
  where
    at : (i : ℕ) (s : Turns) → i < k → Agrees c steps (get_or (take k seats) i s)
    at i s l = rw (get_or-take k seats i s l)
        (agrees c steps (get_or seats i s) (get_or agreed i None) (so.each i s None (omega arith)) (before i s None l))
