-- Runs and nodes as a trace grows. How many messages a processor sent in a round, and where it sends next, are the same
-- in each longer trace. A prefix of a run is a run, and a run goes on with each step that is due. Nodes stay, except
-- that of the processor whose round ends.
use Rattle.std.proofs.Common.{ℕ, zero, suc, ◌≡◌, ◌+◌, ◌-◌, ◌≤◌, List, [], ◌∷◌, ◌++◌, length, Bool, cond, refl, sym, ap, ◌∙◌, arith, ◌⊎◌, inl, inr, Some, subst, take, true, false, ◌==◌, ◌&&◌, eq-eqb}
use Rattle.std.specs.Prelude.{count_by, slice_get}
use Rattle.std.specs.List.{range_with_len}
use Rattle.std.proofs.lemmas.List.Sums.{sum_by-append, sum_by-cons, count_by-le-length}
use Rattle.step_trace.proofs.StepPrefixes.{step_at-prefix_old, IsWellFormed-prefix}
use Rattle.step_buffers.proofs.Common.{Step, range_with_len-more, Setup, step_at, IsWellFormed, step_at_within, step_at-push_cases, state_after-next, messages_heard-local}
use Rattle.step_buffers.specs.HeardTables.{is_sent_in, passed, before, round_at, act_ends, heard_table}
use Rattle.step_buffers.specs.Runs.{sent_before, next_destination, IsDue, IsRun, node_at, body_of, destinations}
use Rattle.step_buffers.proofs.HeardSenders.{IsSentIn-from_test, is_sent_in-from_send, same_tests, IsSentIn-longer, IsSentIn-prefix, state_after-prefix, IsHeard-from_table}
use Rattle.step_buffers.proofs.StepPrefixes.{before-prefix, passed-before, passed-append, round_at-prefix}
use Rattle.std.proofs.lemmas.List.{length-append}
use Rattle.std.proofs.lemmas.Bool.{and_from}
use Rattle.std.proofs.Math.Seq.{take-length}
use Rattle.lock_phases.specs.NodeFunctions.{out, next}
use Rattle.round_model.specs.RoundStates.{messages_heard, state_after}

-- a count over a range with one more number
pub count_by-more : (test : ℕ → Bool) (n : ℕ) → count_by test (range_with_len 1 (suc n))
    ≡ count_by test (range_with_len 1 n) + cond (test (suc n)) 1 0
count_by-more test n =
    let one : ℕ → ℕ = λ x. cond (test x) 1 0 in
    let longer : range_with_len 1 (suc n) ≡ range_with_len 1 n ++ suc n ∷ [] =
    let e : suc n ≡ n + 1 = omega arith in ap (range_with_len 1) e ∙ range_with_len-more 1 n (suc n) (omega arith) in
    let last : count_by test (suc n ∷ []) ≡ one (suc n) + count_by test [] = sum_by-cons one (suc n) [] in
    let none : count_by test [] ≡ 0 = refl in
    let parts = ap (count_by test) longer ∙ sum_by-append one (range_with_len 1 n) (suc n ∷ []) in
    omega arith

-- tests that agree on a range count the same
pub count_by-agree : (f g : ℕ → Bool) (n : ℕ) → ((k : ℕ) → k ≤ n → f k ≡ g k)
    → count_by f (range_with_len 1 n) ≡ count_by g (range_with_len 1 n)
count_by-agree f g zero same = refl
count_by-agree f g (suc n) same =
    let less = count_by-agree f g n (λ k l. same k (omega arith)) in
    let last : cond {A = ℕ} (f (suc n)) 1 0 ≡ cond (g (suc n)) 1 0 = ap (λ b. cond b 1 0) (same (suc n) (omega arith)) in
    count_by-more f n ∙ (let e : count_by f (range_with_len 1 n) + cond (f (suc n)) 1 0
    ≡ count_by g (range_with_len 1 n) + cond (g (suc n)) 1 0 = omega arith in e) ∙ sym (count_by-more g n)

-- the count is the same in each longer trace
pub sent_before-prefix : (steps more : List Step) (p r k : ℕ)
    → k ≤ length steps + 1 → sent_before steps p r k ≡ sent_before (steps ++ more) p r k
sent_before-prefix steps more p r k l = count_by-agree (λ s. is_sent_in steps p r s)
    (λ s. is_sent_in (steps ++ more) p r s) (k - 1) (λ s within. same_tests (is_sent_in steps p r s) (is_sent_in (steps ++ more) p r s)
    (λ h. is_sent_in-from_send (steps ++ more) p r s (IsSentIn-longer steps more p r s (omega arith) (IsSentIn-from_test steps p r s h)))
    (λ h. is_sent_in-from_send steps p r s (IsSentIn-prefix steps more p r s (omega arith) (IsSentIn-from_test (steps ++ more) p r s h))))

-- where a processor sends next is the same in each longer trace
pub next_destination-prefix : (c : Setup) (steps more : List Step) (p k : ℕ) → IsWellFormed c steps → k ≤ length steps + 1
    → next_destination c steps p k ≡ next_destination c (steps ++ more) p k
unfolding next_destination
next_destination-prefix c steps more p k w l =
    rw (
      before-prefix steps more k l,
      sent_before-prefix steps more p (round_at steps p k) k l,
      state_after-prefix c steps more (passed (before steps k) p) p w (passed-before steps p k),
    ) refl

-- a prefix of a run is a run
pub IsRun-prefix : (c : Setup) (steps more : List Step) → IsRun c (steps ++ more) → IsRun c steps
IsRun-prefix c steps more run = record {
  well_formed = w;
  each = λ k x h.
      let b = step_at_within steps k x h in
      let within = b.1 in
      subst (λ next. IsDue next x.act) (sym (next_destination-prefix c steps more x.proc k w (omega arith)))
      (run.each k x (step_at-prefix_old steps more k x h));
}
  where
    w : IsWellFormed c steps
    w = IsWellFormed-prefix c steps more run.well_formed

-- a run goes on with a step that is due
pub IsRun-push : (c : Setup) (steps : List Step) (x : Step) → IsRun c steps → IsWellFormed c (steps ++ x ∷ [])
    → IsDue (next_destination c steps x.proc (length steps + 1)) x.act → IsRun c (steps ++ x ∷ [])
IsRun-push c steps x run w due = record {
  well_formed = w;
  each = λ k y h. go k y (step_at-push_cases steps x y k h);
}
  where
    longer : (y : Step) (k : ℕ) → k ≤ length steps + 1
        → IsDue (next_destination c steps y.proc k) y.act → IsDue (next_destination c (steps ++ x ∷ []) y.proc k) y.act
    longer y k l d = subst (λ next. IsDue next y.act) (next_destination-prefix c steps (x ∷ []) y.proc k run.well_formed l) d

    go : (k : ℕ) (y : Step) → (step_at steps k ≡ Some y) ⊎ ((k ≡ length steps + 1) × (x ≡ y))
        → IsDue (next_destination c (steps ++ x ∷ []) y.proc k) y.act
    go k y (inl old) = let b = step_at_within steps k y old in let within = b.1 in longer y k (omega arith) (run.each k y old)
    go k y (inr new) =
        longer y k (omega (arith, new.0))
        (subst (λ (z : Step). IsDue (next_destination c steps z.proc k) z.act) new.1
        (subst (λ n. IsDue (next_destination c steps x.proc n) x.act) (sym new.0) due))

passed-one : (x : Step) (p : ℕ) → passed (x ∷ []) p ≡ cond (x.proc == p && act_ends x.act) 1 0
passed-one x p =
    let one : passed (x ∷ []) p ≡ cond {A = ℕ} (x.proc == p && act_ends x.act) 1 0 + passed [] p =
    sum_by-cons (λ (y : Step). cond (y.proc == p && act_ends y.act) 1 0) x [] in
    let none : passed [] p ≡ 0 = refl in
    omega arith

-- no processor passed more rounds than there are steps
pub passed-within : (steps : List Step) (p : ℕ) → passed steps p ≤ length steps
passed-within steps p = count_by-le-length (λ (x : Step). x.proc == p && act_ends x.act) steps

-- a step that ends its processor's round
pub passed-ends : (steps : List Step) (x : Step) → act_ends x.act ≡ true → passed (steps ++ x ∷ []) x.proc ≡ suc (passed steps x.proc)
passed-ends steps x ends =
    let all = passed-append steps (x ∷ []) x.proc in
    let one : passed (x ∷ []) x.proc ≡ 1 = passed-one x x.proc
    ∙ ap (λ b. cond {A = ℕ} b 1 0) (and_from (x.proc == x.proc) (act_ends x.act) (eq-eqb x.proc x.proc refl) ends) in
    omega arith

-- any other step, and the step of another
pub passed-stays : (steps : List Step) (x : Step) (p : ℕ)
    → (x.proc == p && act_ends x.act) ≡ false → passed (steps ++ x ∷ []) p ≡ passed steps p
passed-stays steps x p other =
    let all = passed-append steps (x ∷ []) p in
    let one : passed (x ∷ []) p ≡ 0 = passed-one x p ∙ ap (λ b. cond {A = ℕ} b 1 0) other in
    omega arith

-- the node of a processor that stays in its round
pub node_at-stays : (c : Setup) (steps : List Step) (x : Step) (p : ℕ) → IsWellFormed c steps → (x.proc == p && act_ends x.act) ≡ false
    → node_at c (steps ++ x ∷ []) p ≡ node_at c steps p
node_at-stays c steps x p w other =
    ap (λ n. state_after c (heard_table (steps ++ x ∷ [])) n p) (passed-stays steps x p other)
    ∙ sym (state_after-prefix c steps (x ∷ []) (passed steps p) p w (omega arith))

-- who is heard by then sent in the shorter trace, and so had passed the rounds before
pub sender-passed : (c : Setup) (steps : List Step) (x : Step) (p rounds q : ℕ)
    → IsWellFormed c (steps ++ x ∷ []) → heard_table (steps ++ x ∷ []) p (suc rounds) q ≡ true → rounds ≤ passed steps q
sender-passed c steps x p rounds q w h =
    let is = IsHeard-from_table (steps ++ x ∷ []) p (suc rounds) q h in
    let t = is.take in
    let b = step_at_within (steps ++ x ∷ []) t.place t.step t.stands in
    let e = w.earlier t.place is.message t.step t.stands t.taken in
    let long : length (steps ++ x ∷ []) ≡ length steps + 1 = length-append steps (x ∷ []) in
    let same = round_at-prefix steps (x ∷ []) q is.message (omega (arith, e.0, b.1)) in
    omega (arith, passed-before steps q is.message, is.sent.round, e.0, b.1)

-- The node of a processor whose round ends: it computes from its node and from what it heard, of the nodes that the
-- others had after so many rounds. It depends on no row of the longer trace but the new one.
pub node_at-ends : (c : Setup) (steps : List Step) (x : Step) → IsWellFormed c (steps ++ x ∷ []) → act_ends x.act ≡ true
    → node_at c (steps ++ x ∷ []) x.proc ≡ next c (node_at c steps x.proc) x.proc (suc (passed steps x.proc)) (messages_heard c
    (heard_table (steps ++ x ∷ [])) (state_after c (heard_table steps) (passed steps x.proc)) x.proc (suc (passed steps x.proc)))
node_at-ends c steps x w ends =
    let old = IsWellFormed-prefix c steps (x ∷ []) w in
    ap (λ r. state_after c (heard_table (steps ++ x ∷ [])) r x.proc) (passed-ends steps x ends)
    ∙ state_after-next c (heard_table (steps ++ x ∷ [])) (passed steps x.proc) x.proc
    ∙ rw (
      ← state_after-prefix c steps (x ∷ []) (passed steps x.proc) x.proc old (omega arith),
      messages_heard-local c (heard_table (steps ++ x ∷ [])) (heard_table (steps ++ x ∷ []))
          (state_after c (heard_table (steps ++ x ∷ [])) (passed steps x.proc)) (state_after c (heard_table steps) (passed steps x.proc))
          x.proc (suc (passed steps x.proc)) (λ sender is. refl) (λ sender is h. sym (state_after-prefix c steps
          (x ∷ []) (passed steps x.proc) sender old (sender-passed c steps x x.proc (passed steps x.proc) sender w h))),
    ) refl

-- the body of a message of the shorter trace stays
pub body_of-prefix : (c : Setup) (steps more : List Step) (q to s : ℕ) → IsWellFormed c steps → s ≤ length steps + 1
    → body_of c steps q to s ≡ body_of c (steps ++ more) q to s
body_of-prefix c steps more q to s w l =
    rw (
      before-prefix steps more s l,
      state_after-prefix c steps more (passed (before steps s) q) q w (passed-before steps q s),
    ) refl

-- all steps are before the next step
pub before-now : (steps : List Step) → before steps (length steps + 1) ≡ steps
before-now steps =
    let e : length steps + 1 - 1 ≡ length steps = omega arith in
    ap (λ n. take n steps) e ∙ take-length steps

-- the body of a message that is sent next is what the node has to send now
pub body_of-now : (c : Setup) (steps : List Step) (q to : ℕ)
    → body_of c steps q to (length steps + 1) ≡ out c (node_at c steps q) q (passed steps q + 1) to
body_of-now c steps q to = ap (λ xs. out c (state_after c (heard_table steps) (passed xs q) q) q (passed xs q + 1) to) (before-now steps)

-- where a processor sends next, by its node now
pub next_destination-now : (c : Setup) (steps : List Step) (p : ℕ) → next_destination c steps p (length steps + 1)
    ≡ slice_get (destinations c (node_at c steps p) p (passed steps p + 1)) (sent_before steps p (passed steps p + 1) (length steps + 1))
unfolding next_destination
next_destination-now c steps p = ap (λ xs. slice_get (destinations c (state_after c (heard_table steps) (passed xs p) p) p
    (passed xs p + 1)) (sent_before steps p (passed xs p + 1) (length steps + 1))) (before-now steps)
