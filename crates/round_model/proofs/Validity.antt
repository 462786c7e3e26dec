-- Validity: what a processor holds proper, proposes or decides is somebody's initial value.
use Rattle.std.proofs.Common.{ℕ, ◌≡◌, ◌-◌, ◌⊎◌, inl, inr, zero, suc, Some, List, [], sym, subst, arith}
use Rattle.std.specs.Prelude.{Contains}
use Rattle.std.proofs.lemmas.List.Elements.{Contains-get_or}
use Rattle.round_model.proofs.Common.{Setup, IsSetup, IsProc, Contains-nil, State, Message, sender_of, body_of}
use Rattle.round_model.proofs.Common.{IsHeardProper, IsHeardListed, Contains-cons_cases, proper-origin, proposal-origin}
use Rattle.round_model.proofs.Common.{decision-origin, listed-said_by}
use Rattle.round_model.specs.RoundStates.{Table, initial_value, messages_heard, state_after}
use Rattle.round_model.proofs.HeardMessages.{nodes_after, messages_heard-said}

-- The values that a node holds proper, proposes or decides are initial values.
pub record HasInitialValues (c : Setup) (s : State) : Type 0 where
  pub proper : (v : ℕ) → Contains s.proper v → Contains c.init v
  pub proposal : (v : ℕ) → s.proposal ≡ Some v → Contains c.init v
  pub decision : (v : ℕ) → s.decision ≡ Some v → Contains c.init v

-- a round keeps it, of all processors
HasInitialValues-after : (c : Setup) (table : Table) (nodes : ℕ → State) (round : ℕ) → ((p : ℕ) → IsProc c p → HasInitialValues c (nodes p))
    → (p : ℕ) → IsProc c p → HasInitialValues c (nodes_after c table nodes round p)
HasInitialValues-after c table nodes round known p is = record {
  proper = λ v d. proper v (proper-origin c (nodes p) p round heard v d);
  proposal = λ v e. proposal v (proposal-origin c (nodes p) p round heard v e);
  decision = λ v e. decision v (decision-origin c (nodes p) p round heard v e);
}
  where
    heard : List Message
    heard = messages_heard c table nodes p round

    proper : (v : ℕ) → Contains (nodes p).proper v ⊎ IsHeardProper heard v → Contains c.init v
    proper v (inl d) = (known p is).proper v d
    proper v (inr r) =
        let h = messages_heard-said c table nodes p round r.0 r.1 in
        (known (sender_of r.0) h.sender).proper v (subst (λ xs. Contains xs v) h.said.proper r.2)

    proposal : (v : ℕ) → ((nodes p).proposal ≡ Some v) ⊎ IsHeardListed heard v → Contains c.init v
    proposal v (inl e) = (known p is).proposal v e
    proposal v (inr r) =
        let h = messages_heard-said c table nodes p round r.0 r.1 in
        (known (sender_of r.0) h.sender).proper v (listed-said_by (nodes (sender_of r.0)) (body_of r.0) v h.said r.2).0

    decision : (v : ℕ) → ((nodes p).decision ≡ Some v) ⊎ ((nodes p).proposal ≡ Some v) → Contains c.init v
    decision v (inl e) = (known p is).decision v e
    decision v (inr e) = (known p is).proposal v e

-- validity, of each processor after each round
pub HasInitialValues-state_after : (c : Setup) (table : Table) (rounds : ℕ)
    → IsSetup c → (p : ℕ) → IsProc c p → HasInitialValues c (state_after c table rounds p)
unfolding state_after
HasInitialValues-state_after c table zero setup p is = record {
  proper = λ v d. own v (Contains-cons_cases (initial_value c p) v [] d);
  proposal = λ v e. cc;
  decision = λ v e. cc;
}
  where
    own : (v : ℕ) → (v ≡ initial_value c p) ⊎ Contains [] v → Contains c.init v
    own v (inl e) =
        subst (Contains c.init) (sym e) (Contains-get_or c.init (p - 1) 0 (omega (arith, is.0, is.1, setup.values)))
    own v (inr d) = absurd (Contains-nil v d)
HasInitialValues-state_after c table (suc rounds) setup p is =
    HasInitialValues-after c table (state_after c table rounds) (suc rounds) (HasInitialValues-state_after c table rounds setup) p is
