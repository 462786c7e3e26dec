-- Who is suspected was silent for a phase, and since.
use Rattle.std.proofs.Common.{ℕ, zero, suc, ◌≡◌, ◌+◌, ◌-◌, ◌%◌, ◌<◌, ◌≤◌, ◌⊎◌, inl, inr, List, Some, Bool, true, false, ◌==◌, ◌&&◌, ◌||◌, not, cond, refl, sym, ap, subst, ◌∙◌, arith, eq-eqb}
use Rattle.std.specs.Prelude.{nat_lt}
use Rattle.std.proofs.lemmas.Bool.{cases_lt, cases_eq, true≢false, eqb-true, eqb-false, and_parts, lt-ltb, ltb-true}
use Rattle.std.proofs.lemmas.Option.{same_Some}
use Rattle.std.proofs.lemmas.List.{get_or-replicate}
use Rattle.std.proofs.lemmas.Bool.{or_right, not-true}
use Rattle.patience_laws.proofs.Common.{Receive, Step, Setup, IsProc, IsWellFormed, step_at, step_at_within, part_of}
use Rattle.patience_laws.proofs.Common.{round_at, act_ends, Peer, after_phase, unheard, Suspects, TakesOf}
use Rattle.patience_laws.proofs.Common.{TakesNothingOf, WasSilent}
use Rattle.patience_laws.specs.PacedRuns.{pace_after, peer_after}
use Rattle.patience_laws.proofs.PacedSteps.{rounds_after, round-here}
use Rattle.patience_laws.proofs.HeardPeers.{IsDeaf, IsListening, peer_received, IsStillOf, IsReceivedOf, peer-cases}
use Rattle.deciding_runs.proofs.NotedPeers.{heard-weaker}
use Rattle.patience_laws.proofs.KnownRounds.{rounds-up, noted, heard, heard-cases}

-- the first round of the phase that follows so many rounds
abbrev pub first_after : ℕ → ℕ
first_after rounds = rounds - rounds % 4 + 1

-- what a Receive makes of q, by whether it ends a phase
abbrev IsPart : Bool → ℕ → Peer → Peer → Type 0
IsPart ends rounds mid new = ((ends && part_of (rounds + 1) == 4) ≡ false)
    × (new ≡ mid) ⊎ ((ends ≡ true) × (rounds % 4 ≡ 3) × (new ≡ after_phase (rounds + 1) mid))

part-three : (rounds : ℕ) → part_of (rounds + 1) ≡ 4 → rounds % 4 ≡ 3
part-three rounds e = let f : rounds + 1 - 1 ≡ rounds = omega arith in
    let g : rounds % 4 + 1 ≡ 4 = subst (λ n. n % 4 + 1 ≡ 4) f e in omega arith

part-four : (rounds : ℕ) → rounds % 4 ≡ 3 → part_of (rounds + 1) ≡ 4
part-four rounds e = let f : rounds ≡ rounds + 1 - 1 = omega arith in subst (λ n. n % 4 + 1 ≡ 4) f (omega arith)

part-cases : (ends : Bool) (rounds : ℕ) (mid : Peer) → IsPart ends rounds mid (peer_received ends (rounds + 1) mid)
part-cases ends rounds mid = go (ends && part_of (rounds + 1) == 4) refl
  where
    go : (b : Bool) → (ends && part_of (rounds + 1) == 4) ≡ b → IsPart ends rounds mid (peer_received ends (rounds + 1) mid)
    go false e = inl (e, rw e refl)
    go true e =
        let parts = and_parts ends (part_of (rounds + 1) == 4) e in
        inr (parts.0, part-three rounds (eqb-true (part_of (rounds + 1)) 4 parts.1), rw e refl)

-- a Receive that ends no phase leaves the first round of the phase as it is
same-first : (ends : Bool) (rounds : ℕ) → (ends && part_of (rounds + 1) == 4) ≡ false
    → first_after (rounds + cond ends 1 0) ≡ first_after rounds
same-first false rounds e = let f : rounds + 0 ≡ rounds = omega arith in ap first_after f
same-first true rounds e = elim (cases_eq (rounds % 4) 3) [
  | inl three ↦ absurd (eqb-false (part_of (rounds + 1)) 4 e (part-four rounds three))
  | inr other ↦ omega arith
]

-- at first nothing was heard of anybody
opening : (c : Setup) (patience : ℕ) (steps : List Step) (p q : ℕ) → IsProc c q → peer_after c patience steps p q zero ≡ unheard
unfolding pace_after
opening c patience steps p q is = let low = is.0 in let high = is.1 in get_or-replicate c.n (q - 1) unheard unheard (omega arith)

opening-spoke : (c : Setup) (patience : ℕ) (steps : List Step) (p q : ℕ) → IsProc c q → (peer_after c patience steps p q zero).spoke ≡ false
opening-spoke c patience steps p q is = ap (λ (x : Peer). x.spoke) (opening c patience steps p q is)

opening-suspected : (c : Setup) (patience : ℕ) (steps : List Step) (p q : ℕ)
    → IsProc c q → (peer_after c patience steps p q zero).suspected ≡ false
opening-suspected c patience steps p q is = ap (λ (x : Peer). x.suspected) (opening c patience steps p q is)

module _ (c : Setup) (patience : ℕ) (steps : List Step) (p q : ℕ) (w : IsWellFormed c steps) (is : IsProc c q) where
  -- p took something of q in its phase
  abbrev IsSpoken : ℕ → Bool → Type 0
  IsSpoken k true = (m : ℕ) × (m ≤ k) × (first_after (rounds_after steps p k) ≤ round_at steps p m) × TakesOf steps p q m
  IsSpoken k false = TakesNothingOf steps p q (first_after (rounds_after steps p k)) k

  -- nothing up to one step more
  nothing-more : (round k : ℕ) → TakesNothingOf steps p q round k → (TakesOf steps p q (suc k) → ⊥) → TakesNothingOf steps p q round (suc k)
  nothing-more round k before none m from by t = elim (cases_lt m (suc k)) [
    | inl l ↦ before m from (omega arith) t
    | inr l ↦ (let e : m ≡ suc k = omega arith in none (subst (λ n. TakesOf steps p q n) e t))
  ]

  -- the round of a step that was taken is no later than that of a later one
  round-up : (m k : ℕ) → m ≤ suc k → round_at steps p m ≤ rounds_after steps p k + 1
  round-up zero k l =
      let e : zero - 1 ≡ zero = omega arith in
      let f : round_at steps p zero ≡ rounds_after steps p zero + 1 = ap (λ n. rounds_after steps p n + 1) e in
      let up = rounds-up c patience steps p zero k (omega arith) in
      omega arith
  round-up (suc m) k l =
      let f = round-here steps p m in
      let up = rounds-up c patience steps p m k (omega arith) in
      omega arith

  spoken-still : (k : ℕ) (b : Bool) → rounds_after steps p (suc k) ≡ rounds_after steps p k
      → (TakesOf steps p q (suc k) → ⊥) → IsSpoken k b → IsSpoken (suc k) b
  spoken-still k true round none s = (s.0, (let l = s.1 in omega arith), (let l = s.2 in let e = ap first_after round in omega arith), s.3)
  spoken-still k false round none s = subst (λ n. TakesNothingOf steps p q n (suc k))
      (sym (ap first_after round)) (nothing-more (first_after (rounds_after steps p k)) k s none)

  -- the same where the first round of the phase stays
  spoken-same : (k : ℕ) (b : Bool) → first_after (rounds_after steps p (suc k)) ≡ first_after (rounds_after steps p k)
      → (TakesOf steps p q (suc k) → ⊥) → IsSpoken k b → IsSpoken (suc k) b
  spoken-same k true first none s = (s.0, (let l = s.1 in omega arith), (let l = s.2 in omega arith), s.3)
  spoken-same k false first none s = subst (λ n. TakesNothingOf steps p q n (suc k))
      (sym first) (nothing-more (first_after (rounds_after steps p k)) k s none)

  spoken : (k : ℕ) → IsSpoken k (peer_after c patience steps p q k).spoke
  spoken zero = subst (IsSpoken zero) (sym (opening-spoke c patience steps p q is))
      (λ m from by t. let a = (step_at_within steps m _ t.take.step).0 in omega arith)
  spoken (suc k) = go (spoken k) (peer-cases c patience steps p q w is k)
    where
      go : IsSpoken k (peer_after c patience steps p q k).spoke → IsStillOf c patience steps p q k
          ⊎ IsReceivedOf c patience steps p q k → IsSpoken (suc k) (peer_after c patience steps p q (suc k)).spoke
      go before (inl s) =
          subst (IsSpoken (suc k)) (sym (ap (λ (x : Peer). x.spoke) s.same))
          (spoken-still k (peer_after c patience steps p q k).spoke s.round s.none before)
      go before (inr x) = elim (part-cases x.ends (rounds_after steps p k) x.mid) [
        | inl part ↦ (
            let spoke : (peer_after c patience steps p q (suc k)).spoke ≡ x.mid.spoke = ap (λ (y : Peer). y.spoke) (x.new ∙ part.1) in
            let first : first_after (rounds_after steps p (suc k)) ≡ first_after (rounds_after steps p k) = ap first_after x.round
            ∙ same-first x.ends (rounds_after steps p k) part.0 in
            subst (IsSpoken (suc k)) (sym spoke)
            (elim x.heard [
              | inl deaf ↦ subst (IsSpoken (suc k)) (sym (ap (λ (y : Peer). y.spoke) deaf.same))
                  (spoken-same k (peer_after c patience steps p q k).spoke first deaf.none before)
              | inr listening ↦ subst (IsSpoken (suc k))
                  (sym listening.spoke) (suc k, omega arith, (let f = round-here steps p k in omega arith), listening.one)
            ]))
        | inr part ↦ (
            let spoke : (peer_after c patience steps p q (suc k)).spoke ≡ false = ap (λ (y : Peer). y.spoke) (x.new ∙ part.2) in
            let ends : rounds_after steps p (suc k) ≡ rounds_after steps p k + 1 = x.round
            ∙ ap (λ b. rounds_after steps p k + cond b 1 0) part.0 in
            subst (IsSpoken (suc k)) (sym spoke) (λ m from by t. let up = round-up m k by in omega (arith, part.1)))
      ]

  -- what was silent is so with one step more
  silent-longer : (k : ℕ) → (TakesOf steps p q (suc k) → ⊥) → WasSilent steps p q k → WasSilent steps p q (suc k)
  silent-longer k none s = record {
    round = s.round;
    place = s.place;
    ids = s.ids;
    step = s.step;
    round_is = s.round_is;
    last = s.last;
    by = let l = s.by in omega arith;
    nothing = nothing-more (s.round - 3) k s.nothing none;
    behind = s.behind;
  }

  -- a suspected one was silent
  pub suspected-silent : (k : ℕ) → Suspects c patience steps p q k → WasSilent steps p q k
  suspected-silent zero s = absurd (true≢false (sym s ∙ opening-suspected c patience steps p q is))
  suspected-silent (suc k) s = go (suspected-silent k) (spoken k) (peer-cases c patience steps p q w is k)
    where
      go : (Suspects c patience steps p q k → WasSilent steps p q k)
          → IsSpoken k (peer_after c patience steps p q k).spoke
          → IsStillOf c patience steps p q k ⊎ IsReceivedOf c patience steps p q k → WasSilent steps p q (suc k)
      go before spoke (inl x) = silent-longer k x.none (before (sym (ap (λ (y : Peer). y.suspected) x.same) ∙ s))
      go before spoke (inr x) = elim (part-cases x.ends (rounds_after steps p k) x.mid) [
        | inl part ↦ kept x.heard (sym (ap (λ (y : Peer). y.suspected) (x.new ∙ part.1)) ∙ s)
        | inr part ↦ ended part.0 part.1 x.heard x.mid.suspected refl (sym (ap (λ (y : Peer). y.suspected) (x.new ∙ part.2)) ∙ s)
      ]
        where
          kept : IsDeaf steps p q k (peer_after c patience steps p q k) x.mid
              ⊎ IsListening steps p q k (peer_after c patience steps p q k) x.mid → x.mid.suspected ≡ true → WasSilent steps p q (suc k)
          kept (inl deaf) e = silent-longer k deaf.none (before (sym (ap (λ (y : Peer). y.suspected) deaf.same) ∙ e))
          kept (inr listening) e = absurd (true≢false (sym e ∙ listening.suspected))

          ended : x.ends ≡ true → rounds_after steps p k % 4 ≡ 3 → IsDeaf steps p q k (peer_after c patience steps p q k) x.mid
              ⊎ IsListening steps p q k (peer_after c patience steps p q k) x.mid → (b : Bool) → x.mid.suspected ≡ b
              → (b || (not x.mid.spoke && nat_lt x.mid.latest (rounds_after steps p k + 1))) ≡ true → WasSilent steps p q (suc k)
          ended ends three h true e f = kept h e
          ended ends three (inr listening) false e f = absurd (true≢false (sym f ∙ rw listening.spoke refl))
          ended ends three (inl deaf) false e f =
              let parts = and_parts (not x.mid.spoke) (nat_lt x.mid.latest (rounds_after steps p k + 1)) f in
              let quiet : (peer_after c patience steps p q k).spoke ≡ false = sym (ap (λ (y : Peer). y.spoke) deaf.same)
              ∙ not-true x.mid.spoke parts.0 in
              let late = ltb-true x.mid.latest (rounds_after steps p k + 1) parts.1 in
              let nothing : TakesNothingOf steps p q (first_after (rounds_after steps p k)) k = subst (IsSpoken k) quiet spoke in
              let e : first_after (rounds_after steps p k) ≡ rounds_after steps p k + 1 - 3 = omega arith in
              record {
                round = rounds_after steps p k + 1;
                place = suc k;
                ids = x.ids;
                step = x.step ∙ ap (λ b. Some (record { proc = p; act = Receive b x.ids })) ends;
                round_is = round-here steps p k;
                last = part-four (rounds_after steps p k) three;
                by = omega arith;
                nothing = nothing-more (rounds_after steps p k + 1 - 3) k (subst (λ n. TakesNothingOf steps p q n k) e nothing) deaf.none;
                behind = λ h. elim (heard-cases c patience steps p q w is (rounds_after steps p k + 1) k h) [
                  | inl old ↦ (
                      let know = noted c patience steps p q w is (rounds_after steps p k + 1) k (omega arith) old in
                      let same = ap (λ (y : Peer). y.latest) deaf.same in
                      omega arith)
                  | inr m ↦ deaf.none m.0
                ];
              }

  -- and who was silent is suspected
  pub silent-suspected : (k : ℕ) → WasSilent steps p q k → Suspects c patience steps p q k
  silent-suspected zero s = absurd (let a = (step_at_within steps s.place _ s.step).0 in let b = s.by in omega arith)
  silent-suspected (suc k) s = go (silent-suspected k) (cases_lt s.place (suc k)) (peer-cases c patience steps p q w is k)
    where
      -- nothing is taken with this step
      none : TakesOf steps p q (suc k) → ⊥
      none t = s.nothing (suc k) (let up = round-up s.place k s.by in let here = round-here steps p k in let e = s.round_is in omega arith)
          (omega arith) t

      earlier : s.place < suc k → WasSilent steps p q k
      earlier l = record {
        round = s.round;
        place = s.place;
        ids = s.ids;
        step = s.step;
        round_is = s.round_is;
        last = s.last;
        by = omega arith;
        nothing = λ m from by t. s.nothing m from (omega arith) t;
        behind = s.behind;
      }

      -- a suspected one stays so
      stays : (x : IsReceivedOf c patience steps p q k) → x.mid.suspected ≡ true → Suspects c patience steps p q (suc k)
      stays x e = elim (part-cases x.ends (rounds_after steps p k) x.mid) [
        | inl part ↦ ap (λ (y : Peer). y.suspected) (x.new ∙ part.1) ∙ e
        | inr part ↦ ap (λ (y : Peer). y.suspected) (x.new ∙ part.2) ∙ rw e refl
      ]

      go : (WasSilent steps p q k → Suspects c patience steps p q k) → (s.place < suc k) ⊎ (suc k ≤ s.place)
          → IsStillOf c patience steps p q k ⊎ IsReceivedOf c patience steps p q k
          → Suspects c patience steps p q (suc k)
      go before (inl l) (inl x) = ap (λ (y : Peer). y.suspected) x.same ∙ before (earlier l)
      go before (inl l) (inr x) = elim x.heard [
        | inl deaf ↦ stays x (ap (λ (y : Peer). y.suspected) deaf.same ∙ before (earlier l))
        | inr listening ↦ absurd (none listening.one)
      ]
      go before (inr l) (inl x) =
          let e : s.place ≡ suc k = omega (arith, s.by) in
          absurd (x.no_receive true s.ids (subst (λ n. step_at steps n ≡ Some (record { proc = p; act = Receive true s.ids })) e s.step))
      go before (inr l) (inr x) =
          let e : s.place ≡ suc k = omega (arith, s.by) in
          let stands : step_at steps (suc k) ≡ Some (record { proc = p; act = Receive true s.ids }) =
          subst (λ n. step_at steps n ≡ Some (record { proc = p; act = Receive true s.ids })) e s.step in
          let same : record { proc = p; act = Receive x.ends x.ids }
          ≡ record { proc = p; act = Receive true s.ids } = same_Some _ _ (sym x.step ∙ stands) in
          let ends : x.ends ≡ true = ap (λ (y : Step). act_ends y.act) same in
          let round : s.round ≡ rounds_after steps p k + 1 = sym s.round_is ∙ ap (round_at steps p) e ∙ round-here steps p k in
          let three = part-three (rounds_after steps p k) (sym (ap part_of round) ∙ s.last) in
          of ends round three e (part-cases x.ends (rounds_after steps p k) x.mid) x.heard
        where
          of : x.ends ≡ true → s.round ≡ rounds_after steps p k + 1 → rounds_after steps p k % 4 ≡ 3 → s.place ≡ suc k
              → IsPart x.ends (rounds_after steps p k) x.mid (peer_received x.ends (rounds_after steps p k + 1) x.mid)
              → IsDeaf steps p q k (peer_after c patience steps p q k) x.mid ⊎ IsListening steps p q k
              (peer_after c patience steps p q k) x.mid → Suspects c patience steps p q (suc k)
          of ends round three e part (inr listening) = absurd (none listening.one)
          of ends round three e (inl part) (inl deaf) = absurd (true≢false
              (sym (rw (ends, eq-eqb (part_of (rounds_after steps p k + 1)) 4 (part-four (rounds_after steps p k) three)) refl) ∙ part.0))
          of ends round three e (inr part) (inl deaf) =
              let quiet : x.mid.spoke ≡ false = ap (λ (y : Peer). y.spoke) deaf.same
              ∙ silent-spoke (peer_after c patience steps p q k).spoke refl (spoken k) in
              let late : nat_lt x.mid.latest (rounds_after steps p k + 1)
              ≡ true = elim (cases_lt x.mid.latest (rounds_after steps p k + 1)) [
                | inl low ↦ lt-ltb x.mid.latest (rounds_after steps p k + 1) low
                | inr high ↦ (
                    let same = ap (λ (y : Peer). y.latest) deaf.same in
                    let is_known = heard c patience steps p q w is k (omega arith) in
                    absurd (s.behind (heard-weaker steps p q
                    (peer_after c patience steps p q k).latest s.round k s.place (omega arith) (omega arith) is_known)))
              ] in
              ap (λ (y : Peer). y.suspected) (x.new ∙ part.2)
              ∙ or_right x.mid.suspected (not x.mid.spoke && nat_lt x.mid.latest (rounds_after steps p k + 1)) (rw (quiet, late) refl)
            where
              silent-spoke : (b : Bool) → (peer_after c patience steps p q k).spoke ≡ b
                  → IsSpoken k b → (peer_after c patience steps p q k).spoke ≡ false
              silent-spoke false f t = f
              silent-spoke true f t = absurd (s.nothing t.0 (let from = t.2 in omega arith) (let by = t.1 in omega arith) t.3)

  -- until something is taken of it
  pub suspected-stays : (j k : ℕ) → j ≤ k → ((m : ℕ) → j < m → m ≤ k → TakesOf steps p q m → ⊥)
      → Suspects c patience steps p q j → Suspects c patience steps p q k
  suspected-stays j k l none s = silent-suspected k (record {
    round = was.round;
    place = was.place;
    ids = was.ids;
    step = was.step;
    round_is = was.round_is;
    last = was.last;
    by = let by = was.by in omega arith;
    nothing = λ m from by t. elim (cases_lt j m) [ inl late ↦ none m late by t | inr early ↦ was.nothing m from early t ];
    behind = was.behind;
  })
    where
      was : WasSilent steps p q j
      was = suspected-silent j s
