-- Which Receives end a round.
use Rattle.std.proofs.Common.{ℕ, zero, suc, ◌≡◌, ◌+◌, ◌-◌, ◌<◌, ◌≤◌, inl, inr, List, [], ◌∷◌, length, take, Some, Bool}
use Rattle.std.proofs.Common.{true, false, ◌||◌, not, cond, get_or, refl, sym, ap, subst, ◌∙◌, arith, ◌⊎◌, ◌==◌}
use Rattle.std.specs.Prelude.{Contains, count_by, nat_le}
use Rattle.std.specs.List.{range_with_len}
use Rattle.std.proofs.lemmas.Bool.{eqb-true, leb-true, ltb-true, and_parts, true≢false, and_left, or_right, lt-ltb, le-leb}
use Rattle.std.proofs.lemmas.Option.{same_Some}
use Rattle.std.proofs.lemmas.List.Folds.{list_any_at, Any-from_list_any}
use Rattle.std.proofs.lemmas.List.{get_or_default}
use Rattle.std.proofs.lemmas.List.Sums.{sum_by-cons}
use Rattle.deciding_runs.proofs.NotedPeers.{none-passes, heard-weaker}
use Rattle.patience_laws.proofs.Common.{Receive, Step, Setup, IsProc, act_ids, has_proc, IsWithin, step_at}
use Rattle.patience_laws.proofs.Common.{IsWellFormed, Contains-head, Contains-rest}
use Rattle.patience_laws.proofs.Common.{Contains-processors, State, Part, Listing, Locking, Acknowledging, Releasing}
use Rattle.patience_laws.proofs.Common.{part_at, part_of, owner, phase_of, processors, All-range_with_len, act_ends}
use Rattle.patience_laws.proofs.Common.{receiving, node_before, Peer, may_hear, may_hear_in, may_hear_all}
use Rattle.patience_laws.proofs.Common.{may_hear_all_in, HasHeardOf, peer_of, unheard, is_heard_of, is_done_with}
use Rattle.patience_laws.proofs.Common.{is_far_ahead, is_left_behind, is_awaited, awaited_count, heard_count, Paced}
use Rattle.patience_laws.proofs.Common.{heard_ids, is_complete, is_over, Suspects}
use Rattle.lock_phases.specs.Hearing.{number_of}
use Rattle.patience_laws.specs.PacedRuns.{pace_after, peer_after, pace_taking, StepsByPace}
use Rattle.patience_laws.proofs.HeardMessages.{heard-long}
use Rattle.patience_laws.proofs.HeardPeers.{IsReceivedOf, peer-cases, pace-long, pace-quorum}
use Rattle.patience_laws.proofs.PacedSteps.{rounds_after, round-here}
use Rattle.patience_laws.proofs.KnownRounds.{noted, heard, latest-received}

-- none of a list that passes no test is counted
pub count_by-none : (test : ℕ → Bool) (xs : List ℕ) → ((x : ℕ) → Contains xs x → test x ≡ false) → count_by test xs ≡ 0
count_by-none test [] none = refl
count_by-none test (x ∷ xs) none =
    let rest = count_by-none test xs (λ y d. none y (Contains-rest x y xs d)) in
    sum_by-cons (λ z. cond {A = ℕ} (test z) 1 0) x xs ∙ rw (none x (Contains-head x xs), rest) refl

-- who passes a test by number is counted by place
cond-up : (a b : Bool) → (a ≡ true → b ≡ true) → cond {A = ℕ} a 1 0 ≤ cond {A = ℕ} b 1 0
cond-up true true h = omega arith
cond-up true false h = absurd (true≢false (sym (h refl)))
cond-up false true h = omega arith
cond-up false false h = omega arith

count_by-places : (test : ℕ → Bool) (good : Peer → Bool) (xs : List Peer) (a : ℕ) → ((i : ℕ) → i < length xs
    → test (a + i) ≡ true → good (get_or xs i unheard) ≡ true) → count_by test (range_with_len a (length xs)) ≤ count_by good xs
count_by-places test good [] a each = omega arith
count_by-places test good (x ∷ xs) a each =
    let rest = count_by-places test good xs (a + 1)
    (λ i l t. each (suc i) (omega arith) (let e : a + 1 + i ≡ a + suc i = omega arith in subst (λ n. test n ≡ true) e t)) in
    let e : a + 0 ≡ a = omega arith in
    let first = cond-up (test a) (good x) (λ t. each 0 (omega arith) (subst (λ n. test n ≡ true) (sym e) t)) in
    let left = sum_by-cons (λ z. cond {A = ℕ} (test z) 1 0) a (range_with_len (a + 1) (length xs)) in
    let right = sum_by-cons (λ (z : Peer). cond {A = ℕ} (good z) 1 0) x xs in
    omega arith

-- and the other way round: where one passes the test by number alone, fewer are counted by place
count_by-most : (test : ℕ → Bool) (good : Peer → Bool) (xs : List Peer) (a : ℕ) → ((i : ℕ) → i < length xs
    → good (get_or xs i unheard) ≡ true → test (a + i) ≡ true) → count_by good xs ≤ count_by test (range_with_len a (length xs))
count_by-most test good [] a each = omega arith
count_by-most test good (x ∷ xs) a each =
    let rest = count_by-most test good xs (a + 1) (λ i l t. let e : a + suc i ≡ a + 1 + i = omega arith in
    subst (λ n. test n ≡ true) e (each (suc i) (omega arith) t)) in
    let e : a + 0 ≡ a = omega arith in
    let first = cond-up (good x) (test a) (λ t. subst (λ n. test n ≡ true) e (each 0 (omega arith) t)) in
    let left = sum_by-cons (λ z. cond {A = ℕ} (test z) 1 0) a (range_with_len (a + 1) (length xs)) in
    let right = sum_by-cons (λ (z : Peer). cond {A = ℕ} (good z) 1 0) x xs in
    omega arith

count_by-fewer : (test : ℕ → Bool) (good : Peer → Bool) (xs : List Peer) (a j : ℕ)
    → ((i : ℕ) → i < length xs → good (get_or xs i unheard) ≡ true → test (a + i) ≡ true) → j < length xs
    → test (a + j) ≡ true → good (get_or xs j unheard) ≡ false → count_by good xs < count_by test (range_with_len a (length xs))
count_by-fewer test good [] a j each l passes fails = absurd (omega arith)
count_by-fewer test good (x ∷ xs) a zero each l passes fails =
    let rest = count_by-most test good xs (a + 1) (λ i l t. let e : a + suc i ≡ a + 1 + i = omega arith in
    subst (λ n. test n ≡ true) e (each (suc i) (omega arith) t)) in
    let e : a + 0 ≡ a = omega arith in
    let yes_a : cond {A = ℕ} (test a) 1 0 ≡ 1 = ap (λ b. cond {A = ℕ} b 1 0) (subst (λ n. test n ≡ true) e passes) in
    let no_x : cond {A = ℕ} (good x) 1 0 ≡ 0 = ap (λ b. cond {A = ℕ} b 1 0) fails in
    let left = sum_by-cons (λ z. cond {A = ℕ} (test z) 1 0) a (range_with_len (a + 1) (length xs)) in
    let right = sum_by-cons (λ (z : Peer). cond {A = ℕ} (good z) 1 0) x xs in
    omega arith
count_by-fewer test good (x ∷ xs) a (suc j) each l passes fails =
    let f : a + suc j ≡ a + 1 + j = omega arith in
    let rest = count_by-fewer test good xs (a + 1) j
    (λ i l t. let e : a + suc i ≡ a + 1 + i = omega arith in subst (λ n. test n ≡ true) e (each (suc i) (omega arith) t))
    (omega arith) (subst (λ n. test n ≡ true) f passes) fails in
    let e : a + 0 ≡ a = omega arith in
    let first = cond-up (good x) (test a) (λ t. subst (λ n. test n ≡ true) e (each 0 (omega arith) t)) in
    let left = sum_by-cons (λ z. cond {A = ℕ} (test z) 1 0) a (range_with_len (a + 1) (length xs)) in
    let right = sum_by-cons (λ (z : Peer). cond {A = ℕ} (good z) 1 0) x xs in
    omega arith

-- who may hear all may hear each
all-in : (part : Part) (node : State) (owner p q : ℕ) → may_hear_all_in part node owner p ≡ true → may_hear_in part node owner p q ≡ true
all-in Listing node owner p q h = h
all-in Locking node owner p q h = absurd (true≢false (sym h))
all-in Acknowledging node owner p q h = h
all-in Releasing node owner p q h = h

pub all-each : (c : Setup) (node : State) (round p q : ℕ) → may_hear_all c node round p ≡ true → may_hear c node round p q ≡ true
all-each c node round p q h = all-in (part_at (part_of round)) node (owner c.n (phase_of round)) p q h

or-three : (x y z : Bool) → (x || y || z) ≡ true → (x ≡ true) ⊎ ((y ≡ true) ⊎ (z ≡ true))
or-three true y z h = inl refl
or-three false true z h = inr (inl refl)
or-three false false z h = inr (inr h)

or-second : (a c : Bool) → (a || true || c) ≡ true
or-second true c = refl
or-second false c = refl

or-third : (a b : Bool) → (a || b || true) ≡ true
or-third true b = refl
or-third false b = or_right b true refl

or-first : (b c : Bool) → (true || b || c) ≡ true
or-first b c = refl

module _ (c : Setup) (patience : ℕ) (steps : List Step) (p : ℕ) (w : IsWellFormed c steps) (k : ℕ) (ids : List ℕ) (ends : Bool)
    (at : step_at steps (suc k) ≡ Some (record { proc = p; act = Receive ends ids })) where
  -- what is known with the Receive
  abbrev known : Paced
  known = heard_ids (take k steps) p ids (pace_after c patience steps p k)

  known-is : pace_taking c patience steps p (suc k) ids ≡ known
  known-is = let e : suc k - 1 ≡ k = omega arith in ap (λ n. heard_ids (take n steps) p ids (pace_after c patience steps p n)) e

  known-long : length known.peers ≡ c.n
  known-long = heard-long (take k steps) p ids (pace_after c patience steps p k).peers
      ∙ pace-long c patience steps p p w (w.procs (suc k) _ at) k

  module _ (q : ℕ) (is : IsProc c q) where
    received : IsReceivedOf c patience steps p q k
    received = elim (peer-cases c patience steps p q w is k) [
      | inl still ↦ absurd (still.no_receive ends ids at)
      | inr r ↦ r
    ]

    same-step : receiving p received.ends received.ids ≡ receiving p ends ids
    same-step = same_Some (receiving p received.ends received.ids) (receiving p ends ids) (sym received.step ∙ at)

    mid-known : received.mid ≡ peer_of known.peers q
    mid-known = received.mid_is
        ∙ ap (λ (x : Step). peer_of (heard_ids (take k steps) p (act_ids x.act) (pace_after c patience steps p k)).peers q) same-step

    known-latest : (peer_of known.peers q).latest ≡ (peer_after c patience steps p q (suc k)).latest
    known-latest =
        ap (λ (x : Peer). x.latest) (sym mid-known)
        ∙ sym (ap (λ (x : Peer). x.latest) received.new ∙ latest-received received.ends (rounds_after steps p k + 1) received.mid)

    -- a round that was heard of is known
    pub known-round : (round : ℕ) → rounds_after steps p (suc k) < round
        → HasHeardOf steps p q round (suc k) → round ≤ (peer_of known.peers q).latest
    known-round round ahead h = let e = known-latest in let l = noted c patience steps p q w is round (suc k) ahead h in omega arith

    -- and who is suspected after a Receive that ends no round is suspected with it
    known-suspected : ends ≡ false → Suspects c patience steps p q (suc k) → (peer_of known.peers q).suspected ≡ true
    known-suspected none s =
        let e : received.ends ≡ false = ap (λ (x : Step). act_ends x.act) same-step ∙ none in
        let new : peer_after c patience steps p q (suc k) ≡ received.mid = received.new ∙ rw e refl in
        ap (λ (x : Peer). x.suspected) (sym (new ∙ mid-known)) ∙ s

    -- what is known was taken
    known-heard : (round : ℕ) → 1 ≤ round → round ≤ (peer_of known.peers q).latest → HasHeardOf steps p q round (suc k)
    known-heard round low l =
        let e = known-latest in
        heard-weaker steps p q (peer_after c patience steps p q (suc k)).latest round
        (suc k) (suc k) (omega arith) (omega arith) (heard c patience steps p q w is (suc k) (omega arith))

    -- who is suspected with the Receive was so before
    suspected-before : (peer_of known.peers q).suspected ≡ true → Suspects c patience steps p q k
    suspected-before s =
        let e : received.mid.suspected ≡ true = ap (λ (x : Peer). x.suspected) mid-known ∙ s in
        elim received.heard [
          | inl deaf ↦ ap (λ (x : Peer). x.suspected) (sym deaf.same) ∙ e
          | inr listening ↦ absurd (true≢false (sym e ∙ listening.suspected))
        ]

  -- somebody of whom something of a round more than a phase later was heard
  pub record IsAhead : Type 0 where
    pub proc : ℕ
    pub is : IsProc c proc
    pub heard_of : HasHeardOf steps p proc (rounds_after steps p k + 1 + 5) (suc k)

  ahead-of : is_left_behind (rounds_after steps p k + 1) known.peers ≡ true → IsAhead
  ahead-of h =
      let y = Any-from_list_any (is_far_ahead (rounds_after steps p k + 1)) known.peers h in
      let long = known-long in
      let index = y.2 in
      let is : IsProc c (y.0 + 1) = (omega arith, omega arith) in
      let e : y.0 + 1 - 1 ≡ y.0 = omega arith in
      let peer : peer_of known.peers (y.0 + 1) ≡ y.1 = ap (λ n. get_or known.peers n unheard) e
      ∙ get_or_default known.peers y.0 unheard y.1 y.2 ∙ y.3 in
      let latest = ap (λ (x : Peer). x.latest) peer in
      let far = ltb-true 4 (y.1.latest - (rounds_after steps p k + 1)) y.4 in
      record { proc = y.0 + 1; is = is; heard_of = known-heard (y.0 + 1) is (rounds_after steps p k + 1 + 5) (omega arith) (omega arith) }

  module _ (paced : StepsByPace c patience steps p) where
    abbrev here : State
    here = node_before c steps p (suc k)

    -- the Receive ends the round exactly if it is over
    ends-is : ends ≡ is_over c here (rounds_after steps p k + 1) p known
    ends-is =
        paced.ends (suc k) ids ends at
        ∙ ap (λ r. is_over c here r p (pace_taking c patience steps p (suc k) ids)) (round-here steps p k)
        ∙ ap (λ (x : Paced). is_over c here (rounds_after steps p k + 1) p x) known-is

    -- who has heard of a round more than a phase ahead ends its round
    pub ends-behind : (q round : ℕ) → IsProc c q → rounds_after steps p k + 5 < round
        → HasHeardOf steps p q round (suc k) → rounds_after steps p (suc k) < round → ends ≡ true
    ends-behind q round is far h ahead =
        let l = known-round q is round ahead h in
        let low = is.0 in
        let high = is.1 in
        let long = known-long in
        let test : is_far_ahead (rounds_after steps p k + 1) (peer_of known.peers q)
        ≡ true = lt-ltb 4 ((peer_of known.peers q).latest - (rounds_after steps p k + 1)) (omega arith) in
        let any : is_left_behind (rounds_after steps p k + 1) known.peers ≡ true =
        list_any_at (is_far_ahead (rounds_after steps p k + 1)) known.peers (q - 1) unheard (omega arith) test in
        ends-is ∙ rw any (or-second (is_complete c here (rounds_after steps p k + 1) p known) (nat_le known.left 1))

    -- where the patience is over, the Receive ends the round
    pub ends-out : (pace_after c patience steps p k).left ≤ 1 → ends ≡ true
    ends-out out =
        let over : nat_le known.left 1 ≡ true = le-leb known.left 1 out in
        ends-is ∙ rw over
        (or-third (is_complete c here (rounds_after steps p k + 1) p known) (is_left_behind (rounds_after steps p k + 1) known.peers))

    -- why a Receive ends the round: it is complete, or p is left behind, or the patience is over
    pub data Why : Type 0 where
      Complete : is_complete c here (rounds_after steps p k + 1) p known ≡ true → Why
      Behind : IsAhead → Why
      Impatient : (pace_after c patience steps p k).left ≤ 1 → Why

    pub why-ends : ends ≡ true → Why
    why-ends e =
        let over = or-three (is_complete c here (rounds_after steps p k + 1) p known)
        (is_left_behind (rounds_after steps p k + 1) known.peers) (nat_le known.left 1) (sym ends-is ∙ e) in
        elim over [
          | inl done ↦ Complete done
          | inr (inl behind) ↦ Behind (ahead-of behind)
          | inr (inr out) ↦ Impatient (leb-true known.left 1 out)
        ]

    -- a complete one has heard of all that it may hear and doesn't suspect
    pub complete-heard : (q : ℕ) → IsProc c q → is_complete c here (rounds_after steps p k + 1) p known ≡ true
        → may_hear c here (rounds_after steps p k + 1) p q ≡ true
        → ¬ Suspects c patience steps p q k → HasHeardOf steps p q (rounds_after steps p k + 1) (suc k)
    complete-heard q is done may loud =
        let none = eqb-true (awaited_count c here (rounds_after steps p k + 1) p known.peers) 0
        (and_parts (awaited_count c here (rounds_after steps p k + 1) p known.peers == 0) _ done).0 in
        let found = none-passes (is_awaited c here (rounds_after steps p k + 1) p known.peers)
        (processors c) q none (Contains-processors c q is) in
        go (is_heard_of (rounds_after steps p k + 1) (peer_of known.peers q)) (peer_of known.peers q).suspected refl refl found
      where
        go : (a b : Bool) → is_heard_of (rounds_after steps p k + 1) (peer_of known.peers q) ≡ a → (peer_of known.peers q).suspected ≡ b
            → is_awaited c here (rounds_after steps p k + 1) p known.peers q ≡ false
            → HasHeardOf steps p q (rounds_after steps p k + 1) (suc k)
        go true b e f h = known-heard q is (rounds_after steps p k + 1)
            (omega arith) (leb-true (rounds_after steps p k + 1) (peer_of known.peers q).latest e)
        go false true e f h = absurd (loud (suspected-before q is f))
        go false false e f h = absurd (true≢false (sym (rw (may, e, f) refl) ∙ h))

    -- Where N - t are heard of, and no more are members, a complete one that may hear all has heard of each member.
    module _ (set : ℕ) (few : number_of c.n (has_proc set) ≤ c.n - c.t)
        (others : (q : ℕ) → IsProc c q → has_proc set q ≡ false → HasHeardOf steps p q (rounds_after steps p k + 1) (suc k) → ⊥) where
      heard-member : (i : ℕ) → i < c.n → is_heard_of (rounds_after steps p k + 1) (get_or known.peers i unheard) ≡ true
          → has_proc set (1 + i) ≡ true
      heard-member i l t = go (has_proc set (1 + i)) refl
        where
          go : (b : Bool) → has_proc set (1 + i) ≡ b → has_proc set (1 + i) ≡ true
          go true e = e
          go false e =
              let same : 1 + i - 1 ≡ i = omega arith in
              let latest = leb-true (rounds_after steps p k + 1) (get_or known.peers i unheard).latest t in
              let is : IsProc c (1 + i) = (omega arith, omega arith) in
              absurd (others (1 + i) is e (known-heard (1 + i) is (rounds_after steps p k + 1)
              (omega arith) (subst (λ n. rounds_after steps p k + 1 ≤ (get_or known.peers n unheard).latest) (sym same) latest)))

      pub quorum-heard : (q : ℕ) → IsProc c q → has_proc set q ≡ true → is_complete c here (rounds_after steps p k + 1) p known ≡ true
          → may_hear_all c here (rounds_after steps p k + 1) p ≡ true → HasHeardOf steps p q (rounds_after steps p k + 1) (suc k)
      quorum-heard q is m done all = go (is_heard_of (rounds_after steps p k + 1) (peer_of known.peers q)) refl
        where
          quorum : c.n - c.t ≤ heard_count (rounds_after steps p k + 1) known.peers
          quorum =
              let part = (and_parts (awaited_count c here (rounds_after steps p k + 1) p known.peers == 0)
              (not (may_hear_all c here (rounds_after steps p k + 1) p) || nat_le known.quorum
              (heard_count (rounds_after steps p k + 1) known.peers)) done).1 in
              let le : nat_le known.quorum (heard_count (rounds_after steps p k + 1) known.peers) ≡ true =
              sym (ap (λ b. not b || nat_le known.quorum (heard_count (rounds_after steps p k + 1) known.peers)) all) ∙ part in
              let e : known.quorum ≡ c.n - c.t = pace-quorum c patience steps p k in
              omega (arith, leb-true known.quorum (heard_count (rounds_after steps p k + 1) known.peers) le)

          go : (b : Bool) → is_heard_of (rounds_after steps p k + 1) (peer_of known.peers q) ≡ b
              → HasHeardOf steps p q (rounds_after steps p k + 1) (suc k)
          go true e = known-heard q is (rounds_after steps p k + 1)
              (omega arith) (leb-true (rounds_after steps p k + 1) (peer_of known.peers q).latest e)
          go false e =
              let long = known-long in
              let low = is.0 in
              let high = is.1 in
              let f : 1 + (q - 1) ≡ q = omega arith in
              let fewer = count_by-fewer (has_proc set)
              (is_heard_of (rounds_after steps p k + 1)) known.peers 1 (q - 1) (λ i l t. heard-member i (omega arith) t) (omega arith)
              (subst (λ n. has_proc set n ≡ true) (sym f) m) e in
              let counted : heard_count (rounds_after steps p k + 1) known.peers < number_of c.n (has_proc set) =
              subst (λ n. heard_count (rounds_after steps p k + 1) known.peers < count_by (has_proc set)
              (range_with_len 1 n)) long fewer in
              let enough = quorum in
              absurd (omega arith)

    -- Who has heard of all members whom it may hear, and suspects the others, ends its round.
    module _ (set : ℕ) (within : IsWithin set c.n) (size : c.n - c.t ≤ number_of c.n (has_proc set)) (none : ends ≡ false)
        (members : (q : ℕ) → has_proc set q ≡ true → may_hear c here (rounds_after steps p k + 1) p q ≡ true
        → HasHeardOf steps p q (rounds_after steps p k + 1) (suc k)) (others : (q : ℕ) → IsProc c q
        → has_proc set q ≡ false → may_hear c here (rounds_after steps p k + 1) p q ≡ true → Suspects c patience steps p q (suc k)) where
      same-rounds : rounds_after steps p (suc k) < rounds_after steps p k + 1
      same-rounds =
          let r = received p (w.procs (suc k) _ at) in
          let e : r.ends ≡ false = ap (λ (x : Step). act_ends x.act) (same-step p (w.procs (suc k) _ at)) ∙ none in
          let round : rounds_after steps p (suc k) ≡ rounds_after steps p k + 0 = r.round
          ∙ ap (λ b. rounds_after steps p k + cond b 1 0) e in
          omega arith

      member-known : (q : ℕ) → IsProc c q → has_proc set q ≡ true → may_hear c here (rounds_after steps p k + 1) p q ≡ true
          → is_heard_of (rounds_after steps p k + 1) (peer_of known.peers q) ≡ true
      member-known q is m may = le-leb (rounds_after steps p k + 1)
          (peer_of known.peers q).latest (known-round q is (rounds_after steps p k + 1) same-rounds (members q m may))

      done : (q : ℕ) → IsProc c q → is_awaited c here (rounds_after steps p k + 1) p known.peers q ≡ false
      done q is = go (may_hear c here (rounds_after steps p k + 1) p q) (has_proc set q) refl refl
        where
          go : (a b : Bool) → may_hear c here (rounds_after steps p k + 1) p q ≡ a
              → has_proc set q ≡ b → is_awaited c here (rounds_after steps p k + 1) p known.peers q ≡ false
          go false b e f = and_left (may_hear c here (rounds_after steps p k + 1) p q)
              (not (is_done_with (rounds_after steps p k + 1) (peer_of known.peers q))) e
          go true true e f = rw (e, member-known q is f e) refl
          go true false e f =
              let s = known-suspected q is none (others q is f e) in
              rw (e, s, or_right (is_heard_of (rounds_after steps p k + 1) (peer_of known.peers q)) true refl) refl

      nobody : awaited_count c here (rounds_after steps p k + 1) p known.peers ≡ 0
      nobody = count_by-none (is_awaited c here (rounds_after steps p k + 1) p known.peers) (processors c) (λ q d. done q (in-range q d))
        where
          in-range : (q : ℕ) → Contains (processors c) q → IsProc c q
          in-range q d =
              let r = All-range_with_len 1 c.n d.0 q d.1 in
              let e : _ ≡ q = d.2 in
              let low : 1 ≤ q = subst (λ n. 1 ≤ n) e r.0 in
              let high : q < 1 + c.n = subst (λ n. n < 1 + c.n) e r.1 in
              (low, omega arith)

      enough : may_hear_all c here (rounds_after steps p k + 1) p ≡ true → c.n - c.t ≤ heard_count (rounds_after steps p k + 1) known.peers
      enough all =
          let long = known-long in
          let places = count_by-places (has_proc set) (is_heard_of (rounds_after steps p k + 1)) known.peers 1 (λ i l m.
          let e : 1 + i - 1 ≡ i = omega arith in
          subst (λ n. is_heard_of (rounds_after steps p k + 1) (get_or known.peers n unheard) ≡ true) e
          (member-known (1 + i) (omega arith, omega arith) m (all-each c here (rounds_after steps p k + 1) p (1 + i) all))) in
          let counted : number_of c.n (has_proc set) ≤ heard_count (rounds_after steps p k + 1) known.peers =
          subst (λ n. count_by (has_proc set) (range_with_len 1 n) ≤ heard_count
          (rounds_after steps p k + 1) known.peers) long places in
          omega arith

      quorum-is : known.quorum ≡ c.n - c.t
      quorum-is = pace-quorum c patience steps p k

      complete : is_complete c here (rounds_after steps p k + 1) p known ≡ true
      complete = go (may_hear_all c here (rounds_after steps p k + 1) p) refl
        where
          go : (b : Bool) → may_hear_all c here (rounds_after steps p k + 1) p ≡ b
              → is_complete c here (rounds_after steps p k + 1) p known ≡ true
          go false e = rw (nobody, e) refl
          go true e = rw (nobody, e, quorum-is, le-leb (c.n - c.t) (heard_count (rounds_after steps p k + 1) known.peers) (enough e)) refl

      pub ends-complete : ends ≡ true
      ends-complete = ends-is ∙ rw complete (or-first (is_left_behind (rounds_after steps p k + 1) known.peers) (nat_le known.left 1))
