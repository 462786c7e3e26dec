-- Steps with which a list stays well formed: no reason holds against them.
use Rattle.std.proofs.Common.{ℕ, ◌≡◌, ◌+◌, ◌<◌, inl, inr, List, [], ◌∷◌, ◌++◌, length, None, Bool, true, false, not, refl, suc, arith, eq-eqb}
use Rattle.std.specs.Prelude.{Contains, nat_lt, nat_le, IfSome, find}
use Rattle.std.specs.List.Sorted.{IsStrictlyIncreasing}
use Rattle.std.proofs.lemmas.Grind.{common_steps}
use Rattle.std.proofs.lemmas.Bool.{not_from_true, false_from_ne_true}
use Rattle.std.proofs.lemmas.Bool.Decides.{nat_tests}
use Rattle.step_trace.specs.declared.traces.TheConstants.{MAX_STEPS}
use Rattle.step_trace.specs.declared.steps.Act.{Act}
use Rattle.step_trace.specs.declared.steps.Act.TheVariants.{Send, Receive}
use Rattle.step_trace.specs.declared.steps.Step.{Step}
use Rattle.step_trace.specs.Configurations.{Setup, IsProc, is_proc}
use Rattle.step_trace.specs.Steps.{act_ids, act_dest}
use Rattle.step_trace.specs.Traces.{IsSentTo, IsWellFormed}
use Rattle.step_trace.specs.PushRefusals.{is_taken, is_message, is_sent_to, is_rising, is_rising_from, refusal, act_refusal}
use Rattle.step_trace.proofs.StepPositions.{step_at_within, taken_at-from_is_taken, step_at_last, step_at-push_old, step_at-push_cases}

-- what a step has with which the list stays well formed
pub record Fits (c : Setup) (steps : List Step) (x : Step) : Type 0 where
  pub room : length steps < MAX_STEPS
  pub proc : IsProc c x.proc
  pub dest : IfSome (act_dest x.act) (IsProc c)
  pub rising : IsStrictlyIncreasing (act_ids x.act)
  pub sent : (s : ℕ) → Contains (act_ids x.act) s → IsSentTo steps s x.proc
  pub fresh : (s : ℕ) → Contains (act_ids x.act) s → is_taken steps s ≡ false

-- a number below the other passes the test
pub true_if : (n m : ℕ) → n < m → nat_lt n m ≡ true
true_if n m h = grind (arith, nat_tests)

-- a processor passes the test of processors
pub is_proc-true : (c : Setup) (p : ℕ) → IsProc c p → is_proc c p ≡ true
is_proc-true c p h =
    let low : nat_lt 0 p ≡ true = grind (arith, nat_tests) in
    let high : nat_le p c.n ≡ true = grind (arith, nat_tests) in
    rw (low, high) refl

-- ids that rise by the definition do so by the test
rising_from-true : (x : ℕ) (xs : List ℕ) → IsStrictlyIncreasing (x ∷ xs) → is_rising_from x xs ≡ true
rising_from-true x [] h = refl
rising_from-true x (y ∷ ys) h =
    let first : x < y = h 0 (omega arith) in
    let test : nat_lt x y ≡ true = grind (arith, nat_tests) in
    rw (
      test,
      rising_from-true y ys (λ k l. let e : suc k + 1 ≡ suc (k + 1) = omega arith in
          rw e at (h (suc k) (let l' : k + 1 < length (y ∷ ys) = l in omega arith))),
    ) refl

-- and so it is for a whole list
pub is_rising-from_increasing : (xs : List ℕ) → IsStrictlyIncreasing xs → is_rising xs ≡ true
is_rising-from_increasing [] h = refl
is_rising-from_increasing (x ∷ xs) h = rising_from-true x xs h

-- nothing is found if the test fails on each element
pub find-none : {X : Type 0} (p : X → Bool) (xs : List X) → ((x : X) → Contains xs x → p x ≡ false) → find p xs ≡ None
find-none p [] h = refl
find-none p (x ∷ xs) h = rw (h x (0, omega arith, refl), find-none p xs (λ y d. h y (suc d.0, let l = d.1 in omega arith, d.2))) refl

-- a message to p passes the test of its receiver
is_sent_to-true : (steps : List Step) (s p : ℕ) → IsSentTo steps s p → is_sent_to steps s p ≡ true
is_sent_to-true steps s p h = rw (h.1, eq-eqb p p refl) refl

-- and the test of messages
is_message-true : (steps : List Step) (s p : ℕ) → IsSentTo steps s p → is_message steps s ≡ true
is_message-true steps s p h = rw h.1 refl

-- the last step of a well-formed list fits the list before it
pub Fits-from_well_formed : (c : Setup) (steps : List Step) (x : Step) → IsWellFormed c (steps ++ x ∷ []) → Fits c steps x
Fits-from_well_formed c steps x w =
    let last = step_at_last steps x in
    record {
      room = let short = w.short in grind (arith, common_steps);
      proc = w.procs (suc (length steps)) x last;
      dest = w.dests (suc (length steps)) x last;
      rising = w.rising (suc (length steps)) x last;
      sent = λ s d. sent s d (w.earlier (suc (length steps)) s x last d);
      fresh = λ s d. false_from_ne_true (is_taken steps s) (fresh s d);
    } where
      sent : (s : ℕ) → Contains (act_ids x.act) s → (s < suc (length steps)) × IsSentTo (steps ++ x ∷ []) s x.proc → IsSentTo steps s x.proc
      sent s d e =
          (e.1.0, elim (step_at-push_cases steps x _ s e.1.1) [ inl f ↦ f | inr f ↦ absurd (let l = e.0 in let q = f.0 in omega arith) ])

      fresh : (s : ℕ) → Contains (act_ids x.act) s → is_taken steps s ≡ true → ⊥
      fresh s d e =
          let m = taken_at-from_is_taken steps s e in
          let within = step_at_within steps m.0 _ m.1.1 in
          let same = w.once m.0 (suc (length steps)) s
          (m.1.0, step_at-push_old steps x m.1.0 m.0 m.1.1, m.1.2) (x, step_at_last steps x, d) in
          omega (arith, same, within.1)

-- no reason holds against the act of a step that fits, if no message that it takes was sent in its tick
pub act_refusal-none : (c : Setup) (steps : List Step) (now : ℕ → Bool) (p : ℕ) (a : Act) → Fits c steps (record { proc = p; act = a })
    → ((s : ℕ) → Contains (act_ids a) s → now s ≡ false) → act_refusal c steps now p a ≡ None
act_refusal-none c steps now p (Send to) f earlier = rw (is_proc-true c to f.dest) refl
act_refusal-none c steps now p (Receive ends ids) f earlier =
    let known = find-none (λ s. not (is_message steps s)) ids (λ s d. not_from_true _ (is_message-true steps s p (f.sent s d))) in
    let addressed = find-none (λ s. not (is_sent_to steps s p)) ids (λ s d. not_from_true _ (is_sent_to-true steps s p (f.sent s d))) in
    let before = find-none now ids earlier in
    let untaken = find-none (is_taken steps) ids f.fresh in
    rw (is_rising-from_increasing ids f.rising, known, addressed, before, untaken) refl

-- no reason holds against a step that fits
pub none_from_Fits : (c : Setup) (steps : List Step) (x : Step) → Fits c steps x → refusal c steps x ≡ None
none_from_Fits c steps x f = rw (true_if (length steps) MAX_STEPS f.room, is_proc-true c x.proc f.proc)
    (act_refusal-none c steps (λ s. false) x.proc x.act f (λ s d. refl))
