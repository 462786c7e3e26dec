-- What a pace notes is heard in the trace; so who ends a round because it is complete has heard all that it may hear.
use Rattle.std.proofs.Common.{ℕ, ◌≡◌, ◌≢◌, ◌+◌, ◌-◌, ◌<◌, ◌≤◌, ◌⊎◌, inl, inr, List, [], ◌∷◌, ◌++◌, length, take, drop}
use Rattle.std.proofs.Common.{map, Bool, true, false, ◌&&◌, ◌||◌, ◌==◌, not, cond, refl, sym, ap, subst, ◌∙◌, arith}
use Rattle.std.specs.Prelude.{Contains, count_by, slice_set}
use Rattle.std.proofs.lemmas.Bool.{cases_lt, cases_eq, eqb-true, leb-true, and_parts}
use Rattle.std.proofs.lemmas.List.{length-append, length-take-le, take-append-drop, get_or-set_same, get_or-set_other, get_or-map, get_or_past, length-map}
use Rattle.step_trace.proofs.StepPrefixes.{step_at-prefix_old}
use Rattle.deciding_runs.proofs.Common.{Step, Setup, IsProc, step_at_within, State, Contains-nil, processors}
use Rattle.deciding_runs.proofs.Common.{Contains-processors, round_at-prefix, Peer, has_proc}
use Rattle.deciding_runs.proofs.Common.{IsWithin, member-positive, node_before, may_hear, HasHeardOf, IsHeardOut}
use Rattle.deciding_runs.proofs.Common.{peer_of, unheard, after_hearing, after_phase, is_heard_of, is_awaited}
use Rattle.deciding_runs.proofs.Common.{awaited_count, Paced, is_complete, WereHeard, EndsComplete}
use Rattle.lock_phases.proofs.Membership.{Contains-cons_cases}
use Rattle.std.proofs.lemmas.List.Sums.{sum_by-cons}

-- what was heard stays heard
pub HasHeardOf-longer : (steps more : List Step) (p q round k : ℕ) → HasHeardOf steps p q round k → HasHeardOf (steps ++ more) p q round k
HasHeardOf-longer steps more p q round k is =
    let within = step_at_within steps is.message _ is.sent in
    let same = round_at-prefix steps more q is.message (omega (arith, within.1)) in
    record {
      message = is.message;
      sent = step_at-prefix_old steps more is.message _ is.sent;
      later = omega (arith, is.later, within.1);
      place = is.place;
      take = record {
        ids = is.take.ids;
        ends = is.take.ends;
        step = step_at-prefix_old steps more is.place _ is.take.step;
        taken = is.take.taken;
      };
      by = is.by;
    }

-- and by a later step, and of an earlier round
pub heard-weaker : (steps : List Step) (p q round r k j : ℕ) → r ≤ round → k ≤ j → HasHeardOf steps p q round k → HasHeardOf steps p q r j
heard-weaker steps p q round r k j low late is =
    let later = is.later in
    let by = is.by in
    record { message = is.message; sent = is.sent; later = omega arith; place = is.place; take = is.take; by = omega arith }

-- as the trace grows
pub WereHeard-longer : (steps more : List Step) (p : ℕ) (peers : List Peer) → WereHeard steps p peers → WereHeard (steps ++ more) p peers
WereHeard-longer steps more p peers are q low some =
    heard-weaker (steps ++ more) p q (peer_of peers q).latest (peer_of peers q).latest (length steps) (length (steps ++ more)) (omega arith)
    (omega (arith, length-append steps more)) (HasHeardOf-longer steps more p q (peer_of peers q).latest (length steps) (are q low some))

-- with one message more that was taken
pub WereHeard-noted : (steps : List Step) (p from round : ℕ) (peers : List Peer)
    → 1 ≤ from → from ≤ length peers → HasHeardOf steps p from round (length steps)
    → WereHeard steps p peers → WereHeard steps p (slice_set peers (from - 1) (after_hearing round (peer_of peers from)))
WereHeard-noted steps p from round peers first last heard are q low some = go (cases_eq (q - 1) (from - 1))
  where
    new : Peer
    new = after_hearing round (peer_of peers from)

    noted : List Peer
    noted = slice_set peers (from - 1) new

    had : (0 < (peer_of peers from).latest) ⊎ ((peer_of peers from).latest ≤ 0)
        → round ≤ (peer_of peers from).latest → HasHeardOf steps p from (peer_of peers from).latest (length steps)
    had (inl positive) l = are from first positive
    had (inr none) l = heard-weaker steps p from round
        (peer_of peers from).latest (length steps) (length steps) (omega arith) (omega arith) heard

    here : HasHeardOf steps p from new.latest (length steps)
    here = greater (cases_lt (peer_of peers from).latest round)
      where
        greater : ((peer_of peers from).latest < round) ⊎ (round ≤ (peer_of peers from).latest)
            → HasHeardOf steps p from new.latest (length steps)
        greater (inl l) = let e : round ≡ new.latest = omega arith in subst (λ r. HasHeardOf steps p from r (length steps)) e heard
        greater (inr l) = let e : (peer_of peers from).latest ≡ new.latest = omega arith in
            subst (λ r. HasHeardOf steps p from r (length steps)) e (had (cases_lt 0 (peer_of peers from).latest) l)

    go : (q - 1 ≡ from - 1) ⊎ (q - 1 ≢ from - 1) → HasHeardOf steps p q (peer_of noted q).latest (length steps)
    go (inl e) =
        let same : q ≡ from = omega arith in
        let is : peer_of noted from ≡ new = get_or-set_same peers (from - 1) new unheard (omega arith) in
        subst (λ j. HasHeardOf steps p j (peer_of noted j).latest (length steps)) (sym same)
        (subst (λ (peer : Peer). HasHeardOf steps p from peer.latest (length steps)) (sym is) here)
    go (inr other) =
        let is : peer_of noted q ≡ peer_of peers q = get_or-set_other peers (from - 1) (q - 1) new unheard other in
        subst (λ (peer : Peer). HasHeardOf steps p q peer.latest (length steps)) (sym is)
        (are q low (subst (λ (peer : Peer). 0 < peer.latest) is some))

-- the end of a phase changes nothing of it
pub WereHeard-phase : (steps : List Step) (p round : ℕ) (peers : List Peer)
    → WereHeard steps p peers → WereHeard steps p (map (after_phase round) peers)
WereHeard-phase steps p round peers are q low some = go (cases_lt (q - 1) (length peers))
  where
    go : (q - 1 < length peers) ⊎ (length peers ≤ q - 1)
        → HasHeardOf steps p q (peer_of (map (after_phase round) peers) q).latest (length steps)
    go (inl l) =
        let is : peer_of (map (after_phase round) peers) q
        ≡ after_phase round (peer_of peers q) = get_or-map (after_phase round) peers (q - 1) unheard unheard l in
        subst (λ (peer : Peer). HasHeardOf steps p q peer.latest (length steps)) (sym is)
        (are q low (subst (λ (peer : Peer). 0 < peer.latest) is some))
    go (inr l) =
        let is : peer_of (map (after_phase round) peers) q
        ≡ unheard = get_or_past (map (after_phase round) peers) (q - 1) unheard (omega (arith, length-map peers (after_phase round))) in
        let none : 0 < 0 = subst (λ (peer : Peer). 0 < peer.latest) is some in
        absurd (omega arith)

-- nobody passes a test that none of a list passes
pub none-passes : (test : ℕ → Bool) (xs : List ℕ) (x : ℕ) → count_by test xs ≡ 0 → Contains xs x → test x ≡ false
none-passes test [] x none is = absurd (Contains-nil x is)
none-passes test (y ∷ ys) x none is = elim (Contains-cons_cases y x ys is) [
  | inl e ↦ ap test e ∙ fails (test y) count
  | inr rest ↦ none-passes test ys x (let e = count in omega arith) rest
]
  where
    count : cond {A = ℕ} (test y) 1 0 + count_by test ys ≡ 0
    count = sym (sum_by-cons (λ z. cond {A = ℕ} (test z) 1 0) y ys) ∙ none

    fails : (b : Bool) → cond {A = ℕ} b 1 0 + count_by test ys ≡ 0 → b ≡ false
    fails true e = absurd (omega arith)
    fails false e = refl

-- a done one that isn't suspected was heard of
heard-of_done : (told heard suspected : Bool) → told ≡ true → suspected ≡ false → (told && not (heard || suspected)) ≡ false → heard ≡ true
heard-of_done true true false a b h = refl
heard-of_done true false false a b h = cc
heard-of_done false heard suspected a b h = cc
heard-of_done told heard true a b h = cc

-- Who ends a round because it is complete has heard of all whom it may hear, and who aren't suspected.
pub complete-hears : (c : Setup) (steps : List Step) (node : State) (round p q : ℕ) (x : Paced)
    → WereHeard steps p x.peers → 1 ≤ round → IsProc c q → is_complete c node round p x ≡ true
    → (peer_of x.peers q).suspected ≡ false → may_hear c node round p q ≡ true → HasHeardOf steps p q round (length steps)
complete-hears c steps node round p q x are low is complete loud may =
    let none = eqb-true (awaited_count c node round p x.peers) 0 (and_parts (awaited_count c node round p x.peers == 0) _ complete).0 in
    let found = none-passes (is_awaited c node round p x.peers) (processors c) q none (Contains-processors c q is) in
    let heard = leb-true round (peer_of x.peers q).latest
    (heard-of_done (may_hear c node round p q) (is_heard_of round (peer_of x.peers q)) (peer_of x.peers q).suspected may loud found) in
    let first = is.0 in
    heard-weaker steps p q (peer_of x.peers q).latest round (length steps) (length steps) heard (omega arith) (are q first (omega arith))

-- So a round that a pace ended is heard out.
pub IsHeardOut-ended : (c : Setup) (steps : List Step) (set p round : ℕ)
    → IsWithin set c.n → 1 ≤ round → EndsComplete c steps set p round → IsHeardOut c steps set p round
IsHeardOut-ended c steps set p round within first out =
    record { place = out.place; ids = out.ids; step = out.step; round_is = out.round_is; heard = heard } where
      inside : (0 < out.place) × (out.place ≤ length steps)
      inside = step_at_within steps out.place _ out.step

      long : length (take out.place steps) ≡ out.place
      long = length-take-le out.place steps inside.1

      heard : (q : ℕ) → has_proc set q ≡ true → may_hear c (node_before c steps p out.place) round p q ≡ true
          → HasHeardOf steps p q round out.place
      heard q mq may =
          let is = complete-hears c (take out.place steps) (node_before c steps p out.place) round p q out.pace out.heard first
          (member-positive set q mq, within q mq) out.complete (out.waited q mq) may in
          let longer = HasHeardOf-longer (take out.place steps) (drop out.place steps) p q round (length (take out.place steps)) is in
          subst (λ k. HasHeardOf steps p q round k) long
          (subst (λ xs. HasHeardOf xs p q round (length (take out.place steps))) (take-append-drop out.place steps) longer)
