-- Where a processor sends next: the least destination above the last one to which there is something to send. It is
-- found by trying one processor: of those above the last one, none before it is sent anything, nor any after it if it
-- isn't. And the same as the trace grows by a step.
use Rattle.std.proofs.Common.{ℕ, zero, suc, ◌≡◌, ◌+◌, ◌<◌, ◌≤◌, List, [], ◌∷◌, Some, Bool, true, false, cond, ltb, ◌&&◌}
use Rattle.std.proofs.Common.{refl, sym, ap, ◌∙◌, subst, arith, ◌⊎◌, inl, inr, Option, None, ◌≢◌, eq-eqb, ◌-◌, ◌++◌}
use Rattle.std.proofs.Common.{length, ◌==◌}
use Rattle.std.specs.Prelude.{slice_get, filter, find, nat_lt, is_some, Contains, IsSome, option_map, count_by}
use Rattle.std.specs.List.Sorted.{IsStrictlyIncreasing}
use Rattle.std.proofs.lemmas.Option.{same_Some, none-some, slice_get_within, get_or_from_slice_get}
use Rattle.std.proofs.lemmas.Bool.{lt-ltb, le-ltb, cases_lt, and_parts, ne_eqb, false_from_ne_true, cases_eq}
use Rattle.step_buffers.proofs.Common.{Setup, IsProc, Contains-from_filter, Contains-head, Contains-rest, rising-tail}
use Rattle.step_buffers.proofs.Common.{rising-first, Contains-nil, State, processors}
use Rattle.step_buffers.proofs.Common.{IsStrictlyIncreasing-range_with_len, destinations, destination_after, node_at}
use Rattle.step_buffers.proofs.Common.{sent_before, Body, MAX_STEPS, Step, act_sends, IsWellFormed, refusal}
use Rattle.step_buffers.proofs.Common.{step_at_last, step_at_within, none_from_Fits, found, act_ends, passed, round_at}
use Rattle.step_buffers.proofs.Common.{is_sent_in, next_send, sending}
use Rattle.lock_phases.specs.NodeFunctions.{out}
use Rattle.std.specs.List.{range_with_len}
use Rattle.lock_phases.specs.declared.bodies.Kind.TheVariants.{Ack}
use Rattle.lock_phases.specs.Rounds.{phase_of, part_of, owner, Listing, Locking, Acknowledging, Releasing}
use Rattle.lock_phases.specs.Hearing.{with_proper}
use Rattle.lock_phases.proofs.RoundLaws.{part_of-cases, part_at-listing, part_at-locking, part_at-acknowledging, part_at-releasing, out-in}
use Rattle.std.proofs.Math.Bool.{and-false}
use Rattle.std.proofs.lemmas.List.{length-append}
use Rattle.round_model.proofs.HeardMessages.{IsProc-from_processors}
use Rattle.step_buffers.proofs.StepPrefixes.{before-prefix, passed-before, round_at-prefix}
use Rattle.step_buffers.proofs.HeardSenders.{IsSentIn-from_test}
use Rattle.step_buffers.proofs.GrownNodes.{count_by-more, sent_before-prefix, passed-ends, passed-stays, node_at-stays, before-now, next_destination-now}

-- all elements are above a number
abbrev AreAbove : ℕ → List ℕ → Type 0
AreAbove x xs = (y : ℕ) → Contains xs y → x < y

-- what passes first
first-filtered : (test : ℕ → Bool) (xs : List ℕ) → slice_get (filter test xs) 0 ≡ find test xs
first-filtered test [] = refl
first-filtered test (x ∷ xs) = go (test x) (first-filtered test xs)
  where
    go : (b : Bool) → slice_get (filter test xs) 0 ≡ find test xs
        → slice_get (cond b (x ∷ filter test xs) (filter test xs)) 0 ≡ cond b (Some x) (find test xs)
    go true rest = refl
    go false rest = rest

-- a bound below all elements tests nothing
find-above : (test : ℕ → Bool) (last : ℕ) (xs : List ℕ) → AreAbove last xs → find (λ y. nat_lt last y && test y) xs ≡ find test xs
find-above test last [] above = refl
find-above test last (x ∷ xs) above =
    rw (lt-ltb last x (above x (Contains-head x xs)), find-above test last xs (λ y d. above y (Contains-rest x y xs d))) refl

-- after one that passes
pub after-filtered : (test : ℕ → Bool) (xs : List ℕ) (last k : ℕ) → IsStrictlyIncreasing xs → slice_get (filter test xs) k ≡ Some last
    → slice_get (filter test xs) (suc k) ≡ find (λ y. nat_lt last y && test y) xs
after-filtered test [] last k rise h = absurd (none-some last h)
after-filtered test (x ∷ xs) last k rise h = go (test x) k (after-filtered test xs last) h
  where
    skip : (b : Bool) → x ≤ last → find (λ y. nat_lt last y && test y) xs
        ≡ cond (ltb last x && b) (Some x) (find (λ y. nat_lt last y && test y) xs)
    skip b l = rw (le-ltb last x l) refl

    later : (j : ℕ) → slice_get (filter test xs) j ≡ Some last → x ≤ last
    later j e =
        let member = (Contains-from_filter test xs last
        (j, slice_get_within (filter test xs) j last e, get_or_from_slice_get (filter test xs) j last last e)).0 in
        omega (arith, rising-first x xs rise last member)

    go : (b : Bool) (j : ℕ) → ((j : ℕ) → IsStrictlyIncreasing xs
        → slice_get (filter test xs) j ≡ Some last → slice_get (filter test xs) (suc j) ≡ find (λ y. nat_lt last y && test y) xs)
        → slice_get (cond b (x ∷ filter test xs) (filter test xs)) j ≡ Some last → slice_get
        (cond b (x ∷ filter test xs) (filter test xs)) (suc j) ≡ cond (ltb last x && b) (Some x) (find (λ y. nat_lt last y && test y) xs)
    go false j rest e = rest j (rising-tail x xs rise) e ∙ skip false (later j e)
    go true zero rest e =
        let same : x ≡ last = same_Some x last e in
        first-filtered test xs
        ∙ sym (find-above test last xs (λ y d. let l = rising-first x xs rise y d in omega arith))
        ∙ skip true (omega arith)
    go true (suc j) rest e = rest j (rising-tail x xs rise) e ∙ skip true (later j e)

-- the first destination of a round
pub first-destination : (c : Setup) (node : State) (p round : ℕ)
    → slice_get (destinations c node p round) 0 ≡ find (λ to. is_some (out c node p round to)) (processors c)
first-destination c node p round = first-filtered (λ to. is_some (out c node p round to)) (processors c)

-- the one after the last
pub later-destination : (c : Setup) (node : State) (p round last k : ℕ) → slice_get (destinations c node p round) k ≡ Some last
    → slice_get (destinations c node p round) (suc k) ≡ find (λ to. nat_lt last to && is_some (out c node p round to)) (processors c)
later-destination c node p round last k h =
    after-filtered (λ to. is_some (out c node p round to)) (processors c) last k (IsStrictlyIncreasing-range_with_len 1 c.n) h

-- the first number of a range that passes a test
find-first : (test : ℕ → Bool) (a n k : ℕ) → a ≤ k
    → k < a + n → ((j : ℕ) → a ≤ j → j < k → test j ≡ false) → test k ≡ true → find test (range_with_len a n) ≡ Some k
find-first test a zero k low high none at = absurd (omega arith)
find-first test a (suc n) k low high none at = elim (cases_lt a k) [
  | inl l ↦ rw (none a (omega arith) l)
      (find-first test (a + 1) n k (omega arith) (omega arith) (λ j b h. none j (omega arith) h) at)
  | inr l ↦ (let e : a ≡ k = omega arith in rw (ap test e ∙ at) (ap (λ (x : ℕ). Some x) e))
]

-- if none passes
find-none : (test : ℕ → Bool) (a n : ℕ) → ((j : ℕ) → a ≤ j → j < a + n → test j ≡ false) → find test (range_with_len a n) ≡ None
find-none test a zero none = refl
find-none test a (suc n) none = rw (none a (omega arith) (omega arith))
    (find-none test (a + 1) n (λ j b h. none j (omega arith) (omega arith)))

unsent : (c : Setup) (node : State) (p round last to : ℕ)
    → (last < to → is_some (out c node p round to) ≡ false) → (nat_lt last to && is_some (out c node p round to)) ≡ false
unsent c node p round last to none = elim (cases_lt last to) [
  | inl l ↦ rw (lt-ltb last to l, none l) refl
  | inr l ↦ rw (le-ltb last to l) refl
]

pub destination_after-found : (c : Setup) (node : State) (p round last to : ℕ) → last < to → to < c.n + 1 → ((t : ℕ) → last < t → t < to
    → is_some (out c node p round t) ≡ false) → is_some (out c node p round to) ≡ true → destination_after c node p round last ≡ Some to
destination_after-found c node p round last to l high none at =
    find-first (λ t. nat_lt last t && is_some (out c node p round t)) 1 c.n to (omega arith) (omega arith)
    (λ t b h. unsent c node p round last t (λ m. none t m h))
    (rw (lt-ltb last to l, at) refl)

pub destination_after-none : (c : Setup) (node : State) (p round last : ℕ)
    → ((t : ℕ) → last < t → t < c.n + 1 → is_some (out c node p round t) ≡ false) → destination_after c node p round last ≡ None
destination_after-none c node p round last none = find-none
    (λ t. nat_lt last t && is_some (out c node p round t)) 1 c.n (λ t b h. unsent c node p round last t (λ m. none t m (omega arith)))

present : (o : Option Body) → is_some o ≡ true → IsSome o
present (Some x) h = refl
present None h = cc

-- so there is something to send to the next destination
pub destination_after-sends : (c : Setup) (node : State) (p round last to : ℕ)
    → destination_after c node p round last ≡ Some to → IsSome (out c node p round to)
destination_after-sends c node p round last to h =
    let first = found (λ t. nat_lt last t && is_some (out c node p round t)) (processors c) to
    (IsStrictlyIncreasing-range_with_len 1 c.n) h in
    present (out c node p round to) (and_parts (nat_lt last to) (is_some (out c node p round to)) first.passes).1

-- in the rounds of lists and of acknowledgements nobody but the owner is sent anything
pub sent-to_owner : (c : Setup) (s : State) (me round to : ℕ) → (part_of round ≡ 1) ⊎ (part_of round ≡ 3) → to ≢ owner c.n (phase_of round)
    → is_some (out c s me round to) ≡ false
sent-to_owner c s me round to (inl e) other =
    ap is_some (out-in Listing c s me round to (part_at-listing round e)) ∙ rw (ne_eqb to (owner c.n (phase_of round)) other) refl
sent-to_owner c s me round to (inr e) other = ap is_some (out-in Acknowledging c s me round to (part_at-acknowledging round e))
    ∙ rw (ne_eqb to (owner c.n (phase_of round)) other) (go s.owes_ack)
  where
    go : (b : Bool) → is_some (option_map (λ kind. with_proper s kind) (cond (b && false) (Some Ack) None)) ≡ false
    go true = refl
    go false = refl

-- so if the owner is sent nothing nobody is
pub sent-to_none : (c : Setup) (s : State) (me round r to : ℕ) → (part_of round ≡ 1) ⊎ (part_of round ≡ 3)
    → (to ≡ owner c.n (phase_of round) → to ≡ r) → is_some (out c s me round r) ≡ false → is_some (out c s me round to) ≡ false
sent-to_none c s me round r to part same none = elim (cases_eq to (owner c.n (phase_of round))) [
  | inl e ↦ subst (λ t. is_some (out c s me round t) ≡ false) (sym (same e)) none
  | inr other ↦ sent-to_owner c s me round to part other
]

-- in the other rounds all are sent something, or none is
pub sent-alike : (c : Setup) (s : State) (me round t u : ℕ)
    → (part_of round ≢ 1) → (part_of round ≢ 3) → is_some (out c s me round t) ≡ is_some (out c s me round u)
sent-alike c s me round t u first third = elim (part_of-cases round) [
  | inl e ↦ absurd (first e)
  | inr (inl e) ↦ ap is_some (out-in Locking c s me round t (part_at-locking round e)
      ∙ sym (out-in Locking c s me round u (part_at-locking round e)))
  | inr (inr (inl e)) ↦ absurd (third e)
  | inr (inr (inr e)) ↦ ap is_some (out-in Releasing c s me round t (part_at-releasing round e)
      ∙ sym (out-in Releasing c s me round u (part_at-releasing round e)))
]

-- how many messages p sent in its present round
abbrev sent_now : List Step → ℕ → ℕ
sent_now steps p = sent_before steps p (passed steps p + 1) (length steps + 1)

-- a next destination is a processor
pub IsProc-next_send : (c : Setup) (steps : List Step) (p to : ℕ) → next_send c steps p ≡ Some to → IsProc c to
IsProc-next_send c steps p to due =
    let sends : ℕ → Bool = λ t. is_some (out c (node_at c steps p) p (passed steps p + 1) t) in
    let dests : List ℕ = destinations c (node_at c steps p) p (passed steps p + 1) in
    let at : slice_get dests (sent_now steps p) ≡ Some to = sym (next_destination-now c steps p) ∙ due in
    IsProc-from_processors c to
    (Contains-from_filter sends (processors c) to
    (sent_now steps p, slice_get_within dests (sent_now steps p) to at, get_or_from_slice_get dests (sent_now steps p) to to at)).0

-- so nothing is against a Send to it
pub refusal-send : (c : Setup) (steps : List Step) (p to : ℕ)
    → length steps < MAX_STEPS → IsProc c p → next_send c steps p ≡ Some to → refusal c steps (sending p to) ≡ None
refusal-send c steps p to room is due = none_from_Fits c steps (sending p to) (record {
  room = room;
  proc = is;
  dest = IsProc-next_send c steps p to due;
  rising = λ k l. absurd (omega arith);
  sent = λ s d. absurd (Contains-nil s d);
  fresh = λ s d. absurd (Contains-nil s d);
})

-- nothing is counted that never passes
count_by-none : (test : ℕ → Bool) (n : ℕ) → ((k : ℕ) → test k ≡ false) → count_by test (range_with_len 1 n) ≡ 0
count_by-none test zero none = refl
count_by-none test (suc n) none =
    let last : cond {A = ℕ} (test (suc n)) 1 0 ≡ 0 = ap (λ b. cond {A = ℕ} b 1 0) (none (suc n)) in
    omega (arith, count_by-more test n, count_by-none test n none)

-- above 0 is no bound on the numbers from 1 on
find-above_zero : (test : ℕ → Bool) (a n : ℕ) → 1 ≤ a
    → find (λ y. nat_lt 0 y && test y) (range_with_len a n) ≡ find test (range_with_len a n)
find-above_zero test a zero l = refl
find-above_zero test a (suc n) l = rw (lt-ltb 0 a (omega arith), find-above_zero test (a + 1) n (omega arith)) refl

-- if nothing was sent in a round, the first destination of all is next
begins : (c : Setup) (node : State) (p round : ℕ) → slice_get (destinations c node p round) 0 ≡ destination_after c node p round 0
begins c node p round = first-destination c node p round ∙ sym (find-above_zero (λ to. is_some (out c node p round to)) 1 c.n (omega arith))

-- before the first step
pub next_send-opening : (c : Setup) (p : ℕ) → next_send c [] p ≡ destination_after c (node_at c [] p) p 1 0
next_send-opening c p = next_destination-now c [] p ∙ begins c (node_at c [] p) p 1

module _ (steps : List Step) (x : Step) where
  -- a count with one step more, in any round
  sent_before-push : (p r : ℕ) → sent_before (steps ++ x ∷ []) p r (length (steps ++ x ∷ []) + 1)
      ≡ sent_before steps p r (length steps + 1) + cond (is_sent_in (steps ++ x ∷ []) p r (suc (length steps))) 1 0
  sent_before-push p r =
      let test : ℕ → Bool = λ s. is_sent_in (steps ++ x ∷ []) p r s in
      let long : length (steps ++ x ∷ []) ≡ length steps + 1 = length-append steps (x ∷ []) in
      let size : length (steps ++ x ∷ []) + 1 - 1 ≡ suc (length steps) = omega arith in
      let old : length steps + 1 - 1 ≡ length steps = omega arith in
      ap (λ n. count_by test (range_with_len 1 n)) size
      ∙ count_by-more test (length steps)
      ∙ ap (λ n. n + cond {A = ℕ} (test (suc (length steps))) 1 0)
      (ap (λ n. count_by test (range_with_len 1 n)) (sym old)
      ∙ sym (sent_before-prefix steps (x ∷ []) p r (length steps + 1) (omega arith)))

  -- the round at the new step
  round_at-now : (p : ℕ) → round_at (steps ++ x ∷ []) p (suc (length steps)) ≡ passed steps p + 1
  round_at-now p =
      let e : suc (length steps) ≡ length steps + 1 = omega arith in
      ap (λ k. round_at (steps ++ x ∷ []) p k) e
      ∙ ap (λ xs. passed xs p + 1) (before-prefix steps (x ∷ []) (length steps + 1) (omega arith) ∙ before-now steps)

  -- a step that doesn't end the round of p counts if it is a Send of p
  sent_now-push : (p : ℕ) → (x.proc == p && act_ends x.act) ≡ false
      → sent_now (steps ++ x ∷ []) p ≡ sent_now steps p + cond (x.proc == p && act_sends x.act) 1 0
  sent_now-push p quiet =
      ap (λ n. sent_before (steps ++ x ∷ []) p (n + 1) (length (steps ++ x ∷ []) + 1)) (passed-stays steps x p quiet)
      ∙ sent_before-push p (passed steps p + 1)
      ∙ ap (λ b. sent_now steps p + cond {A = ℕ} b 1 0) counted
    where
      counted : is_sent_in (steps ++ x ∷ []) p (passed steps p + 1) (suc (length steps)) ≡ (x.proc == p && act_sends x.act)
      counted =
          rw (eq-eqb (round_at (steps ++ x ∷ []) p (suc (length steps))) (passed steps p + 1) (round_at-now p), step_at_last steps x) refl

  -- a new round begins with none
  sent_now-ends : act_ends x.act ≡ true → sent_now (steps ++ x ∷ []) x.proc ≡ 0
  sent_now-ends ends = count_by-none test (length (steps ++ x ∷ []) + 1 - 1) (λ s. false_from_ne_true (test s) (none s))
    where
      test : ℕ → Bool
      test s = is_sent_in (steps ++ x ∷ []) x.proc (passed (steps ++ x ∷ []) x.proc + 1) s

      none : (s : ℕ) → test s ≡ true → ⊥
      none s e =
          let is = IsSentIn-from_test (steps ++ x ∷ []) x.proc (passed (steps ++ x ∷ []) x.proc + 1) s e in
          let b = step_at_within (steps ++ x ∷ []) s is.step is.stands in
          let high = b.1 in
          let long : length (steps ++ x ∷ []) ≡ length steps + 1 = length-append steps (x ∷ []) in
          let same : round_at (steps ++ x ∷ []) x.proc s
          ≡ round_at steps x.proc s = round_at-prefix steps (x ∷ []) x.proc s (omega arith) in
          omega (arith, is.round, passed-ends steps x ends, passed-before steps x.proc s)

  -- after the end of its round
  pub next_send-ended : (c : Setup) → act_ends x.act ≡ true → next_send c (steps ++ x ∷ []) x.proc
      ≡ destination_after c (node_at c (steps ++ x ∷ []) x.proc) x.proc (passed (steps ++ x ∷ []) x.proc + 1) 0
  next_send-ended c ends =
      let node = node_at c (steps ++ x ∷ []) x.proc in
      let round = passed (steps ++ x ∷ []) x.proc + 1 in
      next_destination-now c (steps ++ x ∷ []) x.proc
      ∙ ap (λ n. slice_get (destinations c node x.proc round) n) (sent_now-ends ends)
      ∙ begins c node x.proc round

module _ (c : Setup) (steps : List Step) (x : Step)
    (p : ℕ) (w : IsWellFormed c steps) (quiet : (x.proc == p && act_ends x.act) ≡ false) where
  -- in the same round the destinations are the same
  after-sent : next_send c (steps ++ x ∷ []) p ≡ slice_get
      (destinations c (node_at c steps p) p (passed steps p + 1)) (sent_now steps p + cond (x.proc == p && act_sends x.act) 1 0)
  after-sent = next_destination-now c (steps ++ x ∷ []) p ∙ ap (λ (s : State).
      slice_get (destinations c s p (passed (steps ++ x ∷ []) p + 1)) (sent_now (steps ++ x ∷ []) p)) (node_at-stays c steps x p w quiet)
      ∙ ap (λ n. slice_get (destinations c (node_at c steps p) p (n + 1)) (sent_now (steps ++ x ∷ []) p)) (passed-stays steps x p quiet)
      ∙ ap (λ n. slice_get (destinations c (node_at c steps p) p (passed steps p + 1)) n) (sent_now-push steps x p quiet)

  -- after a step that is no Send of p and doesn't end its round
  pub next_send-stays : (x.proc == p && act_sends x.act) ≡ false → next_send c (steps ++ x ∷ []) p ≡ next_send c steps p
  next_send-stays silent =
      let same : sent_now steps p + cond (x.proc == p && act_sends x.act) 1 0 ≡ sent_now steps p =
      ap (λ b. sent_now steps p + cond {A = ℕ} b 1 0) silent ∙ (let e : sent_now steps p + 0 ≡ sent_now steps p = omega arith in e) in
      after-sent ∙ ap (λ n. slice_get (destinations c (node_at c steps p) p (passed steps p + 1)) n) same
      ∙ sym (next_destination-now c steps p)

-- after a Send
pub next_send-sent : (c : Setup) (steps : List Step) (p to : ℕ) → IsWellFormed c steps → next_send c steps p ≡ Some to
    → next_send c (steps ++ sending p to ∷ []) p ≡ destination_after c (node_at c steps p) p (passed steps p + 1) to
next_send-sent c steps p to w due =
    let more : sent_now steps p + cond (p == p && true) 1 0 ≡ suc (sent_now steps p) =
    ap (λ b. sent_now steps p + cond {A = ℕ} (b && true) 1 0) (eq-eqb p p refl)
    ∙ (let e : sent_now steps p + 1 ≡ suc (sent_now steps p) = omega arith in e) in
    after-sent c steps (sending p to) p w (and-false (p == p))
    ∙ ap (λ n. slice_get (destinations c (node_at c steps p) p (passed steps p + 1)) n) more
    ∙ later-destination c (node_at c steps p) p (passed steps p + 1) to (sent_now steps p) (sym (next_destination-now c steps p) ∙ due)
