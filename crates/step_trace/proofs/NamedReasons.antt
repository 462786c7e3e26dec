-- What a reason against a step names.
use Rattle.std.proofs.Common.{ℕ, ◌≡◌, ◌≢◌, ◌<◌, ◌⊎◌, inl, inr, List, [], ◌∷◌, length, Option, Some, None, Bool, true, false, not, refl, sym, ◌∙◌, subst, arith}
use Rattle.std.specs.Prelude.{Contains, nat_lt, ◌&&◌, find, cond}
use Rattle.std.specs.List.Sorted.{IsStrictlyIncreasing}
use Rattle.std.proofs.lemmas.Option.{same_Some, none-some}
use Rattle.std.proofs.lemmas.Bool.{not-true, not-false, not_from_true, not_from_false}
use Rattle.step_trace.specs.declared.traces.TheConstants.{MAX_STEPS}
use Rattle.step_trace.specs.declared.traces.PushError.{PushError}
use Rattle.step_trace.specs.declared.traces.PushError.TheVariants.{Full, BadTick, BadProc, ProcOrder, BadDest, IdsNotRising, UnknownMessage, NotAddressed, SameTick, Redelivered, Memory}
use Rattle.step_trace.specs.declared.steps.Act.{Act}
use Rattle.step_trace.specs.declared.steps.Act.TheVariants.{Send, Receive}
use Rattle.step_trace.specs.declared.steps.Step.{Step}
use Rattle.step_trace.specs.Configurations.{is_proc}
use Rattle.step_trace.specs.Traces.{Recorded}
use Rattle.step_trace.specs.Ticks.{CanAppend}
use Rattle.step_trace.specs.PushRefusals.{is_taken, is_message, is_sent_to, is_rising, act_refusal, first_id, IsRefusal, IsLeastFailing}
use Rattle.step_trace.specs.TickRefusals.{may_end_in, comes_after_last, is_sent_in, refusal_in, IsJustifiedIn, NamesLeastIn}
use Rattle.step_trace.proofs.ListMembers.{Contains-cons_cases, Contains-rest, rising-tail, rising-first}
use Rattle.step_trace.proofs.Refusals.{is_rising-true}

-- the first element of a rising list that a test finds is the least
pub record IsFound (p : ℕ → Bool) (xs : List ℕ) (s : ℕ) : Type 0 where
  pub member : Contains xs s
  pub passes : p s ≡ true
  pub least : (i : ℕ) → Contains xs i → i < s → p i ≡ false

pub found : (p : ℕ → Bool) (xs : List ℕ) (s : ℕ) → IsStrictlyIncreasing xs → find p xs ≡ Some s → IsFound p xs s
found p [] s rising h = absurd (none-some s h)
found p (x ∷ xs) s rising h = go (p x) refl h (found p xs s (rising-tail x xs rising)) where
  go : (b : Bool) → p x ≡ b → cond b (Some x) (find p xs) ≡ Some s → (find p xs ≡ Some s → IsFound p xs s) → IsFound p (x ∷ xs) s
  go true e f rest = let same = same_Some x s f in record {
    member = (0, omega arith, same);
    passes = subst (λ (n : ℕ). p n ≡ true) same e;
    least = λ i d l. elim (Contains-cons_cases x i xs d) [
      | inl q ↦ absurd (omega (arith, q, same, l))
      | inr q ↦ absurd (let above = rising-first x xs rising i q in omega (arith, above, same, l))
    ];
  }
  go false e f rest = let more = rest f in record {
    member = Contains-rest x s xs more.member;
    passes = more.passes;
    least = λ i d l. elim (Contains-cons_cases x i xs d) [ inl q ↦ subst (λ (n : ℕ). p n ≡ false) q e | inr q ↦ more.least i q l ];
  }

-- an element that the opposite test finds fails the test
pub failing : (test : ℕ → Bool) (ids : List ℕ) (s : ℕ) → IsFound (λ i. not (test i)) ids s → IsLeastFailing test ids s
failing test ids s f = record { member = f.member; fails = not-true _ f.passes; least = λ i d l. not-false _ (f.least i d l) }

-- and one that the test finds fails the opposite test
pub passing : (test : ℕ → Bool) (ids : List ℕ) (s : ℕ) → IsFound test ids s → IsLeastFailing (λ i. not (test i)) ids s
passing test ids s f = record { member = f.member; fails = not_from_true _ f.passes; least = λ i d l. not_from_false _ (f.least i d l) }

-- a reason is never out of memory, and the id that it names is the least of its kind
pub record IsNamedIn (trace : Recorded) (tick : ℕ) (x : Step) (e : PushError) : Type 0 where
  pub reason : e ≢ Memory
  pub least : NamesLeastIn trace tick x e

-- a refusal other than out of memory: it is the answer exactly if it holds as the reason
pub record IsReason (e : PushError) : Type 0 where
  pub answer : (why : Option PushError) → why ≡ Some e → IsRefusal e why
  pub stands : (why : Option PushError) → IsRefusal e why → why ≡ Some e
  pub justified : (trace : Recorded) (tick : ℕ) (x : Step) → (CanAppend trace tick x → ⊥) → IsJustifiedIn trace tick x e

pub IsReason-or_memory : (e : PushError) → (e ≡ Memory) ⊎ IsReason e
IsReason-or_memory Memory = inl refl
IsReason-or_memory Full = inr (record { answer = λ why h. h; stands = λ why h. h; justified = λ t k x n. n })
IsReason-or_memory BadTick = inr (record { answer = λ why h. h; stands = λ why h. h; justified = λ t k x n. n })
IsReason-or_memory BadProc = inr (record { answer = λ why h. h; stands = λ why h. h; justified = λ t k x n. n })
IsReason-or_memory ProcOrder = inr (record { answer = λ why h. h; stands = λ why h. h; justified = λ t k x n. n })
IsReason-or_memory BadDest = inr (record { answer = λ why h. h; stands = λ why h. h; justified = λ t k x n. n })
IsReason-or_memory IdsNotRising = inr (record { answer = λ why h. h; stands = λ why h. h; justified = λ t k x n. n })
IsReason-or_memory (UnknownMessage s) = inr (record { answer = λ why h. h; stands = λ why h. h; justified = λ t k x n. n })
IsReason-or_memory (NotAddressed s) = inr (record { answer = λ why h. h; stands = λ why h. h; justified = λ t k x n. n })
IsReason-or_memory (SameTick s) = inr (record { answer = λ why h. h; stands = λ why h. h; justified = λ t k x n. n })
IsReason-or_memory (Redelivered s) = inr (record { answer = λ why h. h; stands = λ why h. h; justified = λ t k x n. n })

-- if no reason holds, a refusal is out of memory
pub only_memory : (e : PushError) (why : Option PushError) → why ≡ None → IsRefusal e why → e ≡ Memory
only_memory e why h r = elim (IsReason-or_memory e) [ inl m ↦ m | inr is ↦ absurd (none-some e (sym h ∙ is.stands why r)) ]

module _ (trace : Recorded) (tick : ℕ) (x : Step) (e : PushError) where
  -- a test that fails gives its own reason, and one that passes the next
  after_test : (own : PushError) (b : Bool) (next : Option PushError) → IsNamedIn trace tick x own
      → (b ≡ true → next ≡ Some e → IsNamedIn trace tick x e) → cond b next (Some own) ≡ Some e → IsNamedIn trace tick x e
  after_test own true next named rest h = rest refl h
  after_test own false next named rest h = subst (IsNamedIn trace tick x) (same_Some own e h) named

  -- and so it is for one that finds an id, and one that finds none
  after_find : (found : Option ℕ) (why : ℕ → PushError) (next : Option PushError) → ((s : ℕ) → found ≡ Some s → IsNamedIn trace tick x
      (why s)) → (next ≡ Some e → IsNamedIn trace tick x e) → first_id found why next ≡ Some e → IsNamedIn trace tick x e
  after_find None why next named rest h = rest h
  after_find (Some s) why next named rest h = subst (IsNamedIn trace tick x) (same_Some (why s) e h) (named s refl)

-- the first reason against an act names the least id of its kind
act-named : (trace : Recorded) (tick p : ℕ) (a : Act) (e : PushError) → act_refusal trace.config trace.steps
    (is_sent_in trace.ticks tick) p a ≡ Some e → IsNamedIn trace tick (record { proc = p; act = a }) e
act-named trace tick p (Send to) e = after_test trace tick (record { proc = p; act = Send to }) e BadDest
    (is_proc trace.config to) None (record { reason = λ q. cc; least = tt }) (λ _ h. absurd (none-some e h))
act-named trace tick p (Receive ends ids) e =
    let x : Step = record { proc = p; act = Receive ends ids } in
    let steps = trace.steps in
    let now = is_sent_in trace.ticks tick in
    after_test trace tick x e IdsNotRising (is_rising ids) _ (record { reason = λ q. cc; least = tt })
    (λ r. let rising = is_rising-true ids r in
    after_find trace tick x e (find (λ s. not (is_message steps s)) ids) (λ s. UnknownMessage s) _
    (λ s f. record { reason = λ q. cc; least = failing (is_message steps) ids s (found _ ids s rising f) })
    (after_find trace tick x e (find (λ s. not (is_sent_to steps s p)) ids) (λ s. NotAddressed s) _
    (λ s f. record { reason = λ q. cc; least = failing (λ i. is_sent_to steps i p) ids s (found _ ids s rising f) })
    (after_find trace tick x e (find now ids) (λ s. SameTick s) _
    (λ s f. record { reason = λ q. cc; least = passing now ids s (found _ ids s rising f) })
    (after_find trace tick x e (find (is_taken steps) ids) (λ s. Redelivered s) None
    (λ s f. record { reason = λ q. cc; least = passing (is_taken steps) ids s (found _ ids s rising f) })
    (λ h. absurd (none-some e h))))))

-- and so does the first reason against a step
pub refusal_in-named : (trace : Recorded) (tick : ℕ) (x : Step) (e : PushError)
    → refusal_in trace tick x ≡ Some e → IsNamedIn trace tick x e
refusal_in-named trace tick x e =
    after_test trace tick x e Full (nat_lt (length trace.steps) MAX_STEPS) _ (record { reason = λ q. cc; least = tt })
    (λ _. after_test trace tick x e BadTick (nat_lt 0 tick && may_end_in trace tick) _ (record { reason = λ q. cc; least = tt })
    (λ _. after_test trace tick x e BadProc (is_proc trace.config x.proc) _ (record { reason = λ q. cc; least = tt }) (λ _.
    after_test trace tick x e ProcOrder (comes_after_last trace.steps trace.ticks tick x.proc) _ (record { reason = λ q. cc; least = tt })
    (λ _. act-named trace tick x.proc x.act e))))
