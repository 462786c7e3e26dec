-- Agreement and validity in a trace, whose processors are in different rounds. Decisions that stay, and since which
-- round a processor has its own, as the trace grows by a step.
use Rattle.std.proofs.Common.{ℕ, ◌≡◌, ◌+◌, ◌-◌, List, ◌++◌, Some, subst, arith, zero, suc, ◌≢◌, ◌<◌, ◌≤◌, ◌⊎◌, inl, inr, Option, None, [], ◌∷◌, true, false, ◌==◌, ◌&&◌, refl, sym, ap, ◌∙◌}
use Rattle.step_buffers.proofs.Common.{Step, Setup, IsSetup, IsProc, IsWellFormed, State, node_at, IsDecidedSince}
use Rattle.round_model.specs.RoundStates.{state_after}
use Rattle.round_model.specs.Agreement.{Agree, DecidesInitialValue}
use Rattle.round_model.proofs.AgreedDecisions.{Agree-state_after, DecidesInitialValue-state_after, decision-stays_later}
use Rattle.step_buffers.specs.HeardTables.{passed, heard_table, act_ends}
use Rattle.step_buffers.proofs.StepPrefixes.{passed-append}
use Rattle.step_buffers.proofs.HeardSenders.{state_after-prefix}
use Rattle.std.proofs.lemmas.Bool.{cases_lt}
use Rattle.std.proofs.lemmas.Option.{none-some}
use Rattle.step_buffers.proofs.GrownNodes.{passed-ends, passed-stays}

pub Agree-node_at : (c : Setup) (steps : List Step) (p q : ℕ) → IsSetup c → Agree (node_at c steps p) (node_at c steps q)
Agree-node_at c steps p q setup = Agree-state_after c (heard_table steps) (passed steps p) (passed steps q) p q setup

pub DecidesInitialValue-node_at : (c : Setup) (steps : List Step) (p : ℕ)
    → IsSetup c → IsProc c p → DecidesInitialValue c (node_at c steps p)
DecidesInitialValue-node_at c steps p setup is = DecidesInitialValue-state_after c (heard_table steps) (passed steps p) p setup is

-- a decision stays in each longer trace
pub decision-stays_longer : (c : Setup) (steps more : List Step) (p v : ℕ) → IsWellFormed c steps → (node_at c steps p).decision ≡ Some v
    → (node_at c (steps ++ more) p).decision ≡ Some v
decision-stays_longer c steps more p v w d =
    let all = passed-append steps more p in
    let here : (state_after c (heard_table (steps ++ more)) (passed steps p) p).decision ≡ Some v =
    subst (λ (s : State). s.decision ≡ Some v) (state_after-prefix c steps more (passed steps p) p w (omega arith)) d in
    let sum : passed steps p + (passed (steps ++ more) p - passed steps p) ≡ passed (steps ++ more) p = omega arith in
    subst (λ n. (state_after c (heard_table (steps ++ more)) n p).decision ≡ Some v) sum
    (decision-stays_later c (heard_table (steps ++ more)) (passed steps p) (passed (steps ++ more) p - passed steps p) p v here)

-- the decision after rounds that were passed in a shorter trace
pub decision-prefix : (c : Setup) (steps more : List Step) (r p : ℕ) → IsWellFormed c steps → r ≤ passed steps p
    → (state_after c (heard_table (steps ++ more)) r p).decision ≡ (state_after c (heard_table steps) r p).decision
decision-prefix c steps more r p w over = ap (λ (s : State). s.decision) (sym (state_after-prefix c steps more r p w over))

-- before the first step there is one round
pub IsDecidedSince-opening : (c : Setup) (p : ℕ) (node : State) → node ≡ node_at c [] p → IsDecidedSince c [] p node.decision 1
IsDecidedSince-opening c p node is = record {
  reached = omega arith;
  before = λ r l low. absurd (omega arith);
  after = λ r l high. go r l;
}
  where
    go : (r : ℕ) → r ≤ passed [] p → (state_after c (heard_table []) r p).decision ≡ node.decision
    go zero l = ap (λ (s : State). s.decision) (sym is)
    go (suc r) l = absurd (let none : passed [] p ≡ 0 = refl in omega arith)

-- a processor that stays in its round
pub IsDecidedSince-stays : (c : Setup) (steps : List Step) (x : Step) (p : ℕ) (decision : Option ℕ) (since : ℕ)
    → IsWellFormed c steps → (x.proc == p && act_ends x.act) ≡ false
    → IsDecidedSince c steps p decision since → IsDecidedSince c (steps ++ x ∷ []) p decision since
IsDecidedSince-stays c steps x p decision since w quiet is =
    let same = passed-stays steps x p quiet in
    let reached = is.reached in
    record {
      reached = omega arith;
      before = λ r l low. decision-prefix c steps (x ∷ []) r p w (omega arith) ∙ is.before r (omega arith) low;
      after = λ r l high. decision-prefix c steps (x ∷ []) r p w (omega arith) ∙ is.after r (omega arith) high;
    }

-- a processor whose round ends, and that has the decision that it had
kept : (c : Setup) (steps : List Step) (x : Step) (old new : Option ℕ) (since : ℕ)
    → IsWellFormed c steps → act_ends x.act ≡ true → IsDecidedSince c steps x.proc old since
    → new ≡ (node_at c (steps ++ x ∷ []) x.proc).decision → new ≡ old → IsDecidedSince c (steps ++ x ∷ []) x.proc new since
kept c steps x old new since w ends is now same =
    let more = passed-ends steps x ends in
    let reached = is.reached in
    record {
      reached = omega arith;
      before = λ r l low. decision-prefix c steps (x ∷ []) r x.proc w (omega arith) ∙ is.before r (omega arith) low;
      after = λ r l high. go r l high (cases_lt (passed steps x.proc) r);
    }
  where
    go : (r : ℕ) → r ≤ passed (steps ++ x ∷ []) x.proc → since ≤ r + 1 → (passed steps x.proc < r) ⊎ (r ≤ passed steps x.proc)
        → (state_after c (heard_table (steps ++ x ∷ [])) r x.proc).decision ≡ new
    go r l high (inl late) =
        let last : r ≡ passed (steps ++ x ∷ []) x.proc = omega (arith, passed-ends steps x ends) in
        ap (λ n. (state_after c (heard_table (steps ++ x ∷ [])) n x.proc).decision) last ∙ sym now
    go r l high (inr before) = decision-prefix c steps (x ∷ []) r x.proc w before ∙ is.after r before high ∙ sym same

-- and one that had none
begun : (c : Setup) (steps : List Step) (x : Step) (new : Option ℕ) (since : ℕ)
    → IsWellFormed c steps → act_ends x.act ≡ true → IsDecidedSince c steps x.proc None since
    → new ≡ (node_at c (steps ++ x ∷ []) x.proc).decision → IsDecidedSince c (steps ++ x ∷ []) x.proc new (passed steps x.proc + 2)
begun c steps x new since w ends is now =
    let more = passed-ends steps x ends in
    record {
      reached = omega arith;
      before = λ r l low. decision-prefix c steps (x ∷ []) r x.proc w (omega arith) ∙ none r (omega arith) (cases_lt (r + 1) since);
      after = λ r l high.
          let last : r ≡ passed (steps ++ x ∷ []) x.proc = omega arith in
          ap (λ n. (state_after c (heard_table (steps ++ x ∷ [])) n x.proc).decision) last ∙ sym now;
    }
  where
    none : (r : ℕ) → r ≤ passed steps x.proc → (r + 1 < since) ⊎ (since ≤ r + 1)
        → (state_after c (heard_table steps) r x.proc).decision ≡ None
    none r l (inl low) = is.before r l low
    none r l (inr high) = is.after r l high

-- a processor whose round ends: it has its decision since then, if it had another one before
pub IsDecidedSince-ended : (c : Setup) (steps : List Step) (x : Step) (old new : Option ℕ) (since next : ℕ)
    → IsWellFormed c steps → act_ends x.act ≡ true → IsDecidedSince c steps x.proc old since
    → old ≡ (node_at c steps x.proc).decision → new ≡ (node_at c (steps ++ x ∷ []) x.proc).decision
    → (new ≡ old → next ≡ since) → (new ≢ old → next ≡ passed steps x.proc + 2) → IsDecidedSince c (steps ++ x ∷ []) x.proc new next
IsDecidedSince-ended c steps x (Some v) new since next w ends is was now same other =
    let stays : new ≡ Some v = now ∙ decision-stays_longer c steps (x ∷ []) x.proc v w (sym was) in
    rw (same stays) (kept c steps x (Some v) new since w ends is now stays)
IsDecidedSince-ended c steps x None None since next w ends is was now same other =
    rw (same refl) (kept c steps x None None since w ends is now refl)
IsDecidedSince-ended c steps x None (Some v) since next w ends is was now same other =
    rw (other (λ e. none-some v (sym e))) (begun c steps x (Some v) since w ends is now)
