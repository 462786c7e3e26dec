-- An acknowledging round: an owner that decides has its proposal acknowledged by more than t processors.
use Rattle.std.proofs.Common.{ℕ, ◌≡◌, ◌+◌, ◌≤◌, ◌⊎◌, inl, inr, Bool, true, false, cond, eqb, eq-eqb, ◌&&◌, List, Option, Some, None, is_some, is_none, refl, sym, ap, ◌∙◌, arith}
use Rattle.std.specs.Prelude.{unwrap_or}
use Rattle.std.proofs.lemmas.Bool.{eqb-true, leb-true, le-leb}
use Rattle.lock_phases.proofs.Common.{Setup, phase_of, part_of, owner, Acknowledging, State, Message, acks, heard_from}
use Rattle.lock_phases.proofs.Common.{acknowledging, AcknowledgingKeeps, IsAcknowledged, IsDecidedByQuorum}
use Rattle.lock_phases.proofs.Common.{IsAcknowledgedByQuorum}
use Rattle.lock_phases.specs.NodeFunctions.{decides, next_in, next}
use Rattle.lock_phases.proofs.HeardProcessors.{heard-few, heard-many}
use Rattle.lock_phases.proofs.RoundLaws.{part_at-acknowledging, next-in, with_proper_heard}

-- an acknowledging round changes no lock, and clears the proposal and what is owed
pub acknowledging-keeps : (c : Setup) (s : State) (me round : ℕ) (heard : List Message)
    → part_of round ≡ 3 → AcknowledgingKeeps s (next c s me round heard)
acknowledging-keeps c s me round heard e =
    let n = next-in Acknowledging c s me round heard (part_at-acknowledging round e) in
    record {
      locks = ap (λ (x : State). x.locks) n;
      proposal = ap (λ (x : State). x.proposal) n;
      owes_ack = ap (λ (x : State). x.owes_ack) n;
    }

-- An owner with a proposal and more than t acknowledgements has decided.
pub acknowledging-decided : (c : Setup) (s : State) (round : ℕ) (heard : List Message) (v : ℕ) → part_of round ≡ 3 → s.proposal ≡ Some v
    → c.t + 1 ≤ acks heard → (next c s (owner c.n (phase_of round)) round heard).decision ≡ Some (unwrap_or s.decision v)
acknowledging-decided c s round heard v e p enough =
    ap (λ (x : State). x.decision) (next-in Acknowledging c s o round heard (part_at-acknowledging round e))
    ∙ decided (eqb o o) _ s.proposal s.decision (eq-eqb o o refl) (le-leb (c.t + 1) (acks heard) enough) p
  where
    o : ℕ
    o = owner c.n (phase_of round)

    decided : (a f : Bool) (proposal decision : Option ℕ) → a ≡ true → f ≡ true → proposal ≡ Some v
        → cond (a && is_some proposal && is_none decision && f) proposal decision ≡ Some (unwrap_or decision v)
    decided true true (Some w) None h k q = q
    decided true true (Some w) (Some u) h k q = refl
    decided true true None d h k q = cc
    decided true false w d h k q = cc
    decided false f w d h k q = cc

-- The same if more than t processors are heard to acknowledge.
pub acknowledging-quorum : (c : Setup) (s : State) (round : ℕ) (heard_of : ℕ → Option Message) → part_of round ≡ 3
    → IsDecidedByQuorum c s (next c s (owner c.n (phase_of round)) round (heard_from c.n heard_of)) heard_of
acknowledging-quorum c s round heard_of e v acknowledges p enough heard =
    let many = heard-many c heard_of acknowledging acknowledges heard in
    acknowledging-decided c s round (heard_from c.n heard_of) v e p (omega arith)

-- The decision step: a new decision is the owner's proposal, acknowledged by more than t processors.
pub acknowledging-acknowledged : (c : Setup) (s : State) (me round : ℕ) (heard_of : ℕ → Option Message) → part_of round ≡ 3
    → IsAcknowledgedByQuorum c s (next c s me round (heard_from c.n heard_of)) me (owner c.n (phase_of round)) heard_of
acknowledging-acknowledged c s me round heard_of e v acknowledges decided acked =
    go (decides c s (eqb me (owner c.n (phase_of round))) heard) refl (sym (ap (λ (x : State). x.decision) n) ∙ decided)
  where
    heard : List Message
    heard = heard_from c.n heard_of

    n : next c s me round heard ≡ next_in Acknowledging c (with_proper_heard s heard) me (phase_of round) heard
    n = next-in Acknowledging c s me round heard (part_at-acknowledging round e)

    parts : (a b d f : Bool) → (a && b && d && f) ≡ true → (a ≡ true) × (f ≡ true)
    parts true true true true t = (refl, refl)
    parts true true true false t = cc
    parts true true false f t = cc
    parts true false d f t = cc
    parts false b d f t = cc

    go : (b : Bool) → decides c s (eqb me (owner c.n (phase_of round))) heard ≡ b → cond b s.proposal s.decision ≡ Some v
        → (s.decision ≡ Some v) ⊎ IsAcknowledged c s me (owner c.n (phase_of round)) acknowledges v
    go false t d = inl d
    go true t d =
        let p = parts (eqb me (owner c.n (phase_of round))) (is_some s.proposal) (is_none s.decision) _ t in
        let enough = leb-true _ (acks heard) p.1 in
        let counted = heard-few c.n heard_of acknowledging acknowledges acked in
        inr (record { owns = eqb-true me (owner c.n (phase_of round)) p.0; proposal = d; acks = omega arith })
