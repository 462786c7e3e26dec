-- What a pace knows of a processor is what was taken of it.
use Rattle.std.proofs.Common.{ℕ, zero, suc, ◌≡◌, ◌+◌, ◌-◌, ◌<◌, ◌≤◌, ◌⊎◌, inl, inr, List, Bool, true, false, ◌==◌, ◌&&◌, refl, sym, ap, subst, ◌∙◌, arith}
use Rattle.std.proofs.lemmas.Bool.{cases_lt}
use Rattle.std.proofs.lemmas.List.{get_or-replicate}
use Rattle.deciding_runs.proofs.NotedPeers.{heard-weaker}
use Rattle.patience_laws.proofs.Common.{Step, Setup, IsProc, IsWellFormed, step_at_within, part_of, round_at, Peer, HasHeardOf, IsTakenAt, unheard, TakesOf}
use Rattle.patience_laws.specs.PacedRuns.{pace_after, peer_after}
use Rattle.patience_laws.proofs.PacedSteps.{rounds_after, step-cases}
use Rattle.patience_laws.proofs.HeardPeers.{Latest, Kept, Past, Taken, peer_received, IsStillOf, IsReceivedOf, peer-cases}

-- the end of a phase leaves the latest round as it is
pub latest-received : (ends : Bool) (round : ℕ) (mid : Peer) → (peer_received ends round mid).latest ≡ mid.latest
latest-received ends round mid = go (ends && part_of round == 4) refl
  where
    go : (b : Bool) → (ends && part_of round == 4) ≡ b → (peer_received ends round mid).latest ≡ mid.latest
    go true e = rw e refl
    go false e = rw e refl

-- rounds never fall
module _ (c : Setup) (patience : ℕ) (steps : List Step) (p : ℕ) where
  pub rounds-step : (k : ℕ) → rounds_after steps p k ≤ rounds_after steps p (suc k)
  rounds-step k = elim (step-cases c patience steps p k) [
    | inl s ↦ (let e = s.round in omega arith)
    | inr r ↦ (let e = r.round in omega arith)
  ]

  pub rounds-rise : (j more : ℕ) → rounds_after steps p j ≤ rounds_after steps p (j + more)
  rounds-rise j zero = let e : j + 0 ≡ j = omega arith in rw e (omega arith)
  rounds-rise j (suc more) =
      let e : j + suc more ≡ suc (j + more) = omega arith in
      rw e (omega (arith, rounds-rise j more, rounds-step (j + more)))

  pub rounds-up : (j k : ℕ) → j ≤ k → rounds_after steps p j ≤ rounds_after steps p k
  rounds-up j k l = let e : j + (k - j) ≡ k = omega arith in
      subst (λ n. rounds_after steps p j ≤ rounds_after steps p n) e (rounds-rise j (k - j))

module _ (c : Setup) (patience : ℕ) (steps : List Step) (p q : ℕ) (w : IsWellFormed c steps) (is : IsProc c q) where
  -- what was heard with the last step, or before
  pub heard-cases : (r k : ℕ) → HasHeardOf steps p q r (suc k)
      → HasHeardOf steps p q r k ⊎ ((m : TakesOf steps p q (suc k)) × (r ≤ round_at steps q m.message))
  heard-cases r k h = elim (cases_lt h.place (suc k)) [
    | inl l ↦ inl (record { message = h.message; sent = h.sent; later = h.later; place = h.place; take = h.take; by = omega arith })
    | inr l ↦
        let e : h.place ≡ suc k = omega (arith, h.by) in
        let m : TakesOf steps p q (suc k) =
        record { message = h.message; sent = h.sent; take = subst (λ n. IsTakenAt steps p n h.message) e h.take } in
        inr (m, h.later)
  ]

  -- what was taken of a round that isn't over is known
  pub noted : (r k : ℕ) → rounds_after steps p k < r → HasHeardOf steps p q r k → r ≤ (peer_after c patience steps p q k).latest
  noted r zero ahead h = absurd (let a = (step_at_within steps h.place _ h.take.step).0 in let b = h.by in omega arith)
  noted r (suc k) ahead h = go (noted r k) (heard-cases r k h) (peer-cases c patience steps p q w is k)
    where
      earlier : rounds_after steps p k ≤ rounds_after steps p (suc k)
      earlier = rounds-step c patience steps p k

      go : (rounds_after steps p k < r → HasHeardOf steps p q r k → r ≤ (peer_after c patience steps p q k).latest)
          → HasHeardOf steps p q r k ⊎ ((m : TakesOf steps p q (suc k)) × (r ≤ round_at steps q m.message))
          → IsStillOf c patience steps p q k ⊎ IsReceivedOf c patience steps p q k → r ≤ (peer_after c patience steps p q (suc k)).latest
      go before (inl old) (inl s) = subst (λ (x : Peer). r ≤ x.latest) (sym s.same) (before (let e = earlier in omega arith) old)
      go before (inr m) (inl s) = absurd (s.none m.0)
      go before (inl old) (inr x) =
          let this = before (let e = earlier in omega arith) old in
          let latest = ap (λ (y : Peer). y.latest) x.new ∙ latest-received x.ends (rounds_after steps p k + 1) x.mid in
          elim x.heard [
            | inl deaf ↦ (let same = ap (λ (y : Peer). y.latest) deaf.same in omega arith)
            | inr listening ↦ (let up = listening.up in omega arith)
          ]
      go before (inr m) (inr x) =
          let latest = ap (λ (y : Peer). y.latest) x.new ∙ latest-received x.ends (rounds_after steps p k + 1) x.mid in
          elim x.heard [
            | inl deaf ↦ absurd (deaf.none m.0)
            | inr listening ↦ (
                let e = earlier in
                let most = listening.each m.0.message m.0.take m.0.sent (omega (arith, m.1)) in
                omega (arith, m.1))
          ]

  -- and what is known was taken
  pub heard : (k : ℕ) → 0 < (peer_after c patience steps p q k).latest → HasHeardOf steps p q (peer_after c patience steps p q k).latest k
  unfolding pace_after
  heard zero some =
      let low = is.0 in
      let high = is.1 in
      let none : (peer_after c patience steps p q zero).latest
      ≡ 0 = ap (λ (x : Peer). x.latest) (get_or-replicate c.n (q - 1) unheard unheard (omega arith)) in
      absurd (omega arith)
  heard (suc k) some = go (heard k) (peer-cases c patience steps p q w is k)
    where
      go : (0 < (peer_after c patience steps p q k).latest → HasHeardOf steps p q (peer_after c patience steps p q k).latest k)
          → IsStillOf c patience steps p q k ⊎ IsReceivedOf c patience steps p q k
          → HasHeardOf steps p q (peer_after c patience steps p q (suc k)).latest (suc k)
      go before (inl s) =
          let latest = ap (λ (y : Peer). y.latest) s.same in
          heard-weaker steps p q (peer_after c patience steps p q k).latest
          (peer_after c patience steps p q (suc k)).latest k (suc k) (omega arith) (omega arith) (before (omega arith))
      go before (inr x) =
          let latest = ap (λ (y : Peer). y.latest) x.new ∙ latest-received x.ends (rounds_after steps p k + 1) x.mid in
          elim x.heard [
            | inl deaf ↦ (
                let same = ap (λ (y : Peer). y.latest) deaf.same in
                heard-weaker steps p q (peer_after c patience steps p q k).latest
                (peer_after c patience steps p q (suc k)).latest k (suc k) (omega arith) (omega arith) (before (omega arith)))
            | inr listening ↦ of x.mid latest listening.origin
          ]
        where
          of : (mid : Peer) → (peer_after c patience steps p q (suc k)).latest ≡ mid.latest → Latest steps p q k
              (peer_after c patience steps p q k) mid → HasHeardOf steps p q (peer_after c patience steps p q (suc k)).latest (suc k)
          of mid latest (Kept e) = heard-weaker steps p q (peer_after c patience steps p q k).latest
              (peer_after c patience steps p q (suc k)).latest k (suc k) (omega arith) (omega arith) (before (omega arith))
          of mid latest (Past e) = absurd (omega arith)
          of mid latest (Taken m e) = record {
            message = m.message;
            sent = m.sent;
            later = omega arith;
            place = suc k;
            take = m.take;
            by = omega arith;
          }
