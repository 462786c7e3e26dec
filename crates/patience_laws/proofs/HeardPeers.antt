-- What a step of a trace does to what a pace has heard of one processor.
use Rattle.std.proofs.Common.{ℕ, zero, suc, ◌≡◌, ◌+◌, ◌-◌, ◌<◌, ◌≤◌, ◌⊎◌, inl, inr, List, [], ◌∷◌, length, take, Some, Bool, true, false, ◌==◌, ◌&&◌, cond, refl, sym, ap, subst, ◌∙◌, arith}
use Rattle.std.specs.Prelude.{Contains, slice_get, if◌then◌else◌}
use Rattle.patience_laws.proofs.Common.{act_ids, Send, Receive, Step, Setup, IsProc, step_at, IsWellFormed, part_of}
use Rattle.patience_laws.proofs.Common.{passed, round_at, IsSend, sender_of, round_ahead, Peer, IsTakenAt, peer_of}
use Rattle.patience_laws.proofs.Common.{unheard, after_phase, Paced, heard_ids, after_receive, TakesOf}
use Rattle.std.proofs.lemmas.Bool.{cases_lt}
use Rattle.std.proofs.lemmas.Option.{same_Some}
use Rattle.std.proofs.lemmas.List.{take-take, get_or-map, length-map, length-replicate}
use Rattle.step_buffers.proofs.MessageOrigins.{sender_of-sent, round_ahead-ahead, round_ahead-past}
use Rattle.patience_laws.specs.PacedRuns.{pace_after, peer_after}
use Rattle.patience_laws.proofs.HeardMessages.{IsFrom, heard-all, heard-long}
use Rattle.patience_laws.proofs.PacedSteps.{rounds_after, IsReceived, step-cases}

-- a step among the first k
slice_get-take : (steps : List Step) (k i : ℕ) → i < k → slice_get (take k steps) i ≡ slice_get steps i
slice_get-take steps zero i l = absurd (omega arith)
slice_get-take [] (suc k) i l = refl
slice_get-take (x ∷ steps) (suc k) zero l = refl
slice_get-take (x ∷ steps) (suc k) (suc i) l = slice_get-take steps k i (omega arith)

pub step_at-take : (steps : List Step) (k s : ℕ) → s ≤ k → step_at (take k steps) s ≡ step_at steps s
step_at-take steps k zero l = refl
step_at-take steps k (suc i) l = slice_get-take steps k i (omega arith)

pub round_at-take : (steps : List Step) (q k s : ℕ) → s ≤ k → round_at (take k steps) q s ≡ round_at steps q s
round_at-take steps q k s l = ap (λ xs. passed xs q + 1) (take-take (s - 1) k steps (omega arith))

-- p takes nothing of q with the step
pub record IsDeaf (steps : List Step) (p q k : ℕ) (old mid : Peer) : Type 0 where
  pub none : TakesOf steps p q (suc k) → ⊥
  pub same : mid ≡ old

-- where the latest round is from that was heard of with the step
pub data Latest (steps : List Step) (p q k : ℕ) (old mid : Peer) : Type 0 where
  Kept : mid.latest ≡ old.latest → Latest steps p q k old mid
  Past : mid.latest ≡ 0 → Latest steps p q k old mid
  Taken : (m : TakesOf steps p q (suc k)) → mid.latest ≡ round_at steps q m.message → Latest steps p q k old mid

-- or it does
pub record IsListening (steps : List Step) (p q k : ℕ) (old mid : Peer) : Type 0 where
  pub one : TakesOf steps p q (suc k)
  pub spoke : mid.spoke ≡ true
  pub suspected : mid.suspected ≡ false
  pub up : old.latest ≤ mid.latest
  pub each : (s : ℕ) → IsTakenAt steps p (suc k) s
      → IsSend steps q p s → rounds_after steps p k < round_at steps q s → round_at steps q s ≤ mid.latest
  pub origin : Latest steps p q k old mid

-- what was heard of q, after a Receive
abbrev pub peer_received : Bool → ℕ → Peer → Peer
peer_received ends round mid = if ends && part_of round == 4 then after_phase round mid else mid

-- a Receive of p changes what was heard of q so: first by what is taken, and then by the end of a phase
pub record IsReceivedOf (c : Setup) (patience : ℕ) (steps : List Step) (p q k : ℕ) : Type 0 where
  pub ids : List ℕ
  pub ends : Bool
  pub step : step_at steps (suc k) ≡ Some (record { proc = p; act = Receive ends ids })
  pub round : rounds_after steps p (suc k) ≡ rounds_after steps p k + cond ends 1 0
  pub mid : Peer
  pub mid_is : mid ≡ peer_of (heard_ids (take k steps) p ids (pace_after c patience steps p k)).peers q
  pub heard : IsDeaf steps p q k (peer_after c patience steps p q k) mid ⊎ IsListening steps p q k (peer_after c patience steps p q k) mid
  pub new : peer_after c patience steps p q (suc k) ≡ peer_received ends (rounds_after steps p k + 1) mid

-- any other step changes nothing of it
pub record IsStillOf (c : Setup) (patience : ℕ) (steps : List Step) (p q k : ℕ) : Type 0 where
  pub same : peer_after c patience steps p q (suc k) ≡ peer_after c patience steps p q k
  pub round : rounds_after steps p (suc k) ≡ rounds_after steps p k
  pub none : TakesOf steps p q (suc k) → ⊥
  pub no_receive : (ends : Bool) (ids : List ℕ) → step_at steps (suc k) ≡ Some (record { proc = p; act = Receive ends ids }) → ⊥

-- who takes something makes a Receive, the one of the step
same-taken : (steps : List Step) (p k s : ℕ) (ends : Bool) (ids : List ℕ)
    → step_at steps k ≡ Some (record { proc = p; act = Receive ends ids }) → IsTakenAt steps p k s → Contains ids s
same-taken steps p k s ends ids is t =
    let same : record { proc = p; act = Receive t.ends t.ids }
    ≡ record { proc = p; act = Receive ends ids } = same_Some _ _ (sym t.step ∙ is) in
    subst (λ xs. Contains xs s) (ap (λ (x : Step). act_ids x.act) same) t.taken

module _ (c : Setup) (patience : ℕ) (steps : List Step) (p q : ℕ) (w : IsWellFormed c steps) (is : IsProc c q) where
  -- as many processors are kept
  received-long : (ends : Bool) (round : ℕ) (x : Paced) → length (after_receive ends round x).peers ≡ length x.peers
  received-long false round x = refl
  received-long true round x = go (part_of round == 4) refl
    where
      go : (b : Bool) → (part_of round == 4) ≡ b → length (after_receive true round x).peers ≡ length x.peers
      go true e = rw e (length-map x.peers (after_phase round))
      go false e = rw e refl

  pub pace-long : (k : ℕ) → length (pace_after c patience steps p k).peers ≡ c.n
  unfolding pace_after
  pace-long zero = length-replicate c.n unheard
  pace-long (suc k) = elim (step-cases c patience steps p k) [
    | inl s ↦ ap (λ (x : Paced). length x.peers) s.pace ∙ pace-long k
    | inr r ↦ ap (λ (x : Paced). length x.peers) r.pace ∙ received-long r.ends (rounds_after steps p k + 1) (heard_ids (take k steps)
        p r.ids (pace_after c patience steps p k)) ∙ heard-long (take k steps) p r.ids (pace_after c patience steps p k).peers ∙ pace-long k
  ]

  module _ (k : ℕ) (r : IsReceived c patience steps p k) where
    -- each message that it takes was sent to it
    sent-here : (s : ℕ) → Contains r.ids s → (s < suc k) × (a : ℕ) × IsSend steps a p s
    sent-here s d = let e = w.earlier (suc k) s (record { proc = p; act = Receive r.ends r.ids }) r.step d in (e.0, e.1.0, e.1.1)

    sender-here : (s a : ℕ) → s < suc k → IsSend steps a p s → sender_of (take k steps) s ≡ a
    sender-here s a l sent = sender_of-sent (take k steps) a p s (step_at-take steps k s (omega arith) ∙ sent)

    procs : (s : ℕ) → Contains r.ids s → (1 ≤ sender_of (take k steps) s)
        × (sender_of (take k steps) s ≤ length (pace_after c patience steps p k).peers)
    procs s d =
        let e = sent-here s d in
        let from = sender-here s e.1 e.0 e.2 in
        let proc = w.procs s (record { proc = e.1; act = Send p }) e.2 in
        let long = pace-long k in
        (omega (arith, proc.1, proc.0), omega (arith, proc.1, proc.0))

    -- of which round it is, as far as p can hear it
    ahead-here : (s : ℕ) → s < suc k → IsSend steps q p s
        → rounds_after steps p k < round_at steps q s → round_ahead (take k steps) p s ≡ round_at steps q s
    ahead-here s l sent ahead =
        let same = round_at-take steps q k s (omega arith) in
        round_ahead-ahead (take k steps) q p s (step_at-take steps k s (omega arith) ∙ sent) (omega arith) ∙ same

    past-here : (s : ℕ) → s < suc k → IsSend steps q p s → round_at steps q s ≤ rounds_after steps p k → round_ahead (take k steps) p s ≡ 0
    past-here s l sent past =
        let same = round_at-take steps q k s (omega arith) in
        round_ahead-past (take k steps) q p s (step_at-take steps k s (omega arith) ∙ sent) (omega arith)

    -- one of its messages that q sent
    abbrev takes-from : IsFrom (take k steps) r.ids q → TakesOf steps p q (suc k)
    takes-from m =
        let e = sent-here m.message m.is_in in
        let from : e.1 ≡ q = sym (sender-here m.message e.1 e.0 e.2) ∙ m.sender in
        record {
          message = m.message;
          sent = subst (λ a. IsSend steps a p m.message) from e.2;
          take = record { ids = r.ids; ends = r.ends; step = r.step; taken = m.is_in };
        }

    from-takes : TakesOf steps p q (suc k) → IsFrom (take k steps) r.ids q
    from-takes t =
        let d = same-taken steps p (suc k) t.message r.ends r.ids r.step t.take in
        record { message = t.message; is_in = d; sender = sender-here t.message q (sent-here t.message d).0 t.sent }

    abbrev mid-heard : Peer
    mid-heard = peer_of (heard_ids (take k steps) p r.ids (pace_after c patience steps p k)).peers q

    -- what is heard of q with its messages
    heard-here : IsDeaf steps p q k (peer_after c patience steps p q k) mid-heard
        ⊎ IsListening steps p q k (peer_after c patience steps p q k) mid-heard
    heard-here = elim (heard-all (take k steps) p q is.0 r.ids (pace_after c patience steps p k).peers procs) [
      | inl u ↦ inl (record { none = λ t. u.none (from-takes t); same = u.same })
      | inr t ↦ inr (record {
        one = takes-from t.one;
        spoke = t.spoke;
        suspected = t.suspected;
        up = t.up;
        each = λ s at sent ahead.
            let d = same-taken steps p (suc k) s r.ends r.ids r.step at in
            let l = (sent-here s d).0 in
            omega (arith, ahead-here s l sent ahead, t.each s d (sender-here s q l sent));
        origin = elim t.origin [
          | inl e ↦ Kept e
          | inr e ↦ of (takes-from e.0) e.1
        ];
      })
    ]
      where
        of : (m : TakesOf steps p q (suc k)) → mid-heard.latest ≡ round_ahead (take k steps) p m.message
            → Latest steps p q k (peer_after c patience steps p q k) mid-heard
        of m e =
            let d = same-taken steps p (suc k) m.message r.ends r.ids r.step m.take in
            let l = (sent-here m.message d).0 in
            elim (cases_lt (rounds_after steps p k) (round_at steps q m.message)) [
              | inl ahead ↦ Taken m (e ∙ ahead-here m.message l m.sent ahead)
              | inr past ↦ Past (e ∙ past-here m.message l m.sent past)
            ]

    -- and then by the end of a phase
    received-here : (ends : Bool) (round : ℕ) (x : Paced)
        → q - 1 < length x.peers → peer_of (after_receive ends round x).peers q ≡ peer_received ends round (peer_of x.peers q)
    received-here false round x l = refl
    received-here true round x l = go (part_of round == 4) refl
      where
        go : (b : Bool) → (part_of round == 4) ≡ b
            → peer_of (after_receive true round x).peers q ≡ peer_received true round (peer_of x.peers q)
        go true e = rw e (get_or-map (after_phase round) x.peers (q - 1) unheard unheard l)
        go false e = rw e refl

    pub received-of : IsReceivedOf c patience steps p q k
    received-of =
        let x = heard_ids (take k steps) p r.ids (pace_after c patience steps p k) in
        let long : length x.peers ≡ c.n = heard-long (take k steps) p r.ids (pace_after c patience steps p k).peers ∙ pace-long k in
        let low = is.0 in
        let high = is.1 in
        record {
          ids = r.ids;
          ends = r.ends;
          step = r.step;
          round = r.round;
          mid = mid-heard;
          mid_is = refl;
          heard = heard-here;
          new = ap (λ (y : Paced). peer_of y.peers q) r.pace ∙ received-here r.ends (rounds_after steps p k + 1) x (omega arith);
        }

  pub peer-cases : (k : ℕ) → IsStillOf c patience steps p q k ⊎ IsReceivedOf c patience steps p q k
  peer-cases k = elim (step-cases c patience steps p k) [
    | inl s ↦ inl (record {
      same = ap (λ (y : Paced). peer_of y.peers q) s.pace;
      round = s.round;
      none = λ t. s.none t.take.ends t.take.ids t.take.step;
      no_receive = s.none;
    })
    | inr r ↦ inr (received-of k r)
  ]

-- the quorum of a pace stays
pub pace-quorum : (c : Setup) (patience : ℕ) (steps : List Step) (p k : ℕ) → (pace_after c patience steps p k).quorum ≡ c.n - c.t
unfolding pace_after
pace-quorum c patience steps p zero = refl
pace-quorum c patience steps p (suc k) = elim (step-cases c patience steps p k) [
  | inl s ↦ ap (λ (x : Paced). x.quorum) s.pace ∙ pace-quorum c patience steps p k
  | inr r ↦ ap (λ (x : Paced). x.quorum) r.pace ∙ received-quorum r.ends
      (rounds_after steps p k + 1) (heard_ids (take k steps) p r.ids (pace_after c patience steps p k)) ∙ pace-quorum c patience steps p k
]
  where
    received-quorum : (ends : Bool) (round : ℕ) (x : Paced) → (after_receive ends round x).quorum ≡ x.quorum
    received-quorum false round x = refl
    received-quorum true round x = refl
