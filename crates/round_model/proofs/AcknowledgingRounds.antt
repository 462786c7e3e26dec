-- An acknowledging round keeps the invariants: a new decision is anchored at this phase, by those who
-- acknowledged it.
use Rattle.std.proofs.Common.{ℕ, ◌≡◌, ◌+◌, ◌≤◌, ◌⊎◌, inl, inr, true, Some, refl, sym, ap, subst, ◌∙◌, arith}
use Rattle.std.specs.Prelude.{Contains, count_by}
use Rattle.round_model.proofs.Common.{Setup, phase_of, part_of, owner, State, LockPair, value_of, phase_of_lock}
use Rattle.round_model.proofs.Common.{body_of, IsHeardToSay, acknowledging, AcknowledgingKeeps, IsAcknowledged}
use Rattle.round_model.proofs.Common.{count_by-le, acknowledging-keeps, acknowledging-acknowledged, ack-said_by, Table}
use Rattle.round_model.proofs.Common.{processors, messages_heard}
use Rattle.round_model.proofs.HeardMessages.{heard_of, heard_of-sender, nodes_after}
use Rattle.round_model.proofs.Invariants.{is_locked_since, is_locked_since-lock, IsAnchored, holders-kept, IsSafe, FlagsMeanFreshLocks-unset}

-- the invariants after an acknowledging round
pub IsSafe-acknowledging : (c : Setup) (table : Table) (nodes : ℕ → State) (round : ℕ)
    → part_of round ≡ 3 → IsSafe c nodes (phase_of round) 3 → IsSafe c (nodes_after c table nodes round) (phase_of round) 4
IsSafe-acknowledging c table nodes round e safe = record {
  past = record {
    begun = λ j lock d. safe.past.begun j lock (held j lock d);
    earlier = λ l. absurd (omega arith);
  };
  fresh = record { proposed = λ h. absurd (omega arith) };
  flags = FlagsMeanFreshLocks-unset _ _ _ unflagged;
  decisions = record { each = λ j v d. anchored j v (decided j v d) };
}
  where
    phase : ℕ
    phase = phase_of round

    o : ℕ
    o = owner c.n phase

    after : ℕ → State
    after = nodes_after c table nodes round

    keeps : (j : ℕ) → AcknowledgingKeeps (nodes j) (after j)
    keeps j = acknowledging-keeps c (nodes j) j round (messages_heard c table nodes j round) e

    held : (j : ℕ) (lock : LockPair) → Contains (after j).locks lock → Contains (nodes j).locks lock
    held j lock d = subst (λ xs. Contains xs lock) (keeps j).locks d

    unflagged : (j : ℕ) → (after j).owes_ack ≡ true → ⊥
    unflagged j f = let clash = sym (keeps j).owes_ack ∙ f in cc

    acknowledged : (p i : ℕ) → IsHeardToSay (heard_of c table nodes p round) acknowledging i → (nodes i).owes_ack ≡ true
    acknowledged p i h = ack-said_by (nodes i) (body_of h.message)
        (heard_of-sender c table nodes p round i h.message h.is_heard).said h.said

    decided : (j v : ℕ) → (after j).decision ≡ Some v
        → ((nodes j).decision ≡ Some v) ⊎ IsAcknowledged c (nodes j) j o (λ i. (nodes i).owes_ack) v
    decided j v d = acknowledging-acknowledged c (nodes j) j round
        (heard_of c table nodes j round) e v (λ i. (nodes i).owes_ack) d (acknowledged j)

    old : (v : ℕ) → IsAnchored c nodes phase 3 v → IsAnchored c after phase 4 v
    old v a = record {
      anchor = a.anchor;
      begun = a.begun;
      earlier = λ l. a.earlier (omega arith);
      holders = holders-kept c nodes after a.anchor v (λ j h. ap (is_locked_since a.anchor v) (keeps j).locks ∙ h) a.holders;
      sole = λ j lock d l. a.sole j lock (held j lock d) l;
      proposed = λ l h. absurd (omega arith);
    }

    -- a lock of this phase is on the value that the owner decides
    on_proposal : (v j : ℕ) (lock : LockPair) → (nodes o).proposal ≡ Some v
        → Contains (nodes j).locks lock → phase_of_lock lock ≡ phase → value_of lock ≡ v
    on_proposal v j lock p d h = let both : Some (value_of lock) ≡ Some v = sym (safe.fresh.proposed refl j lock d h) ∙ p in cc

    locked : (v j : ℕ) → (nodes o).proposal ≡ Some v → (nodes j).owes_ack ≡ true → is_locked_since phase v (after j).locks ≡ true
    locked v j p f =
        let fresh = safe.flags.locked j f in
        let same = on_proposal v j (fresh.0, phase) p fresh.1 refl in
        ap (is_locked_since phase v) (keeps j).locks
        ∙ is_locked_since-lock phase v (nodes j).locks (fresh.0, phase) fresh.1 same (omega arith)

    sole : (v j : ℕ) (lock : LockPair) → (nodes o).proposal ≡ Some v
        → Contains (nodes j).locks lock → phase ≤ phase_of_lock lock → value_of lock ≡ v
    sole v j lock p d l = let h = safe.past.begun j lock d in on_proposal v j lock p d (omega arith)

    new : (v : ℕ) → (nodes o).proposal ≡ Some v → c.t + 1 ≤ count_by (λ i. (nodes i).owes_ack) (processors c) → IsAnchored c after phase 4 v
    new v p acks =
        let more = count_by-le (λ i. (nodes i).owes_ack)
        (λ i. is_locked_since phase v (after i).locks) (processors c) (λ i f. locked v i p f) in
        record {
          anchor = phase;
          begun = omega arith;
          earlier = λ l. absurd (omega arith);
          holders = omega arith;
          sole = λ j lock d l. sole v j lock p (held j lock d) l;
          proposed = λ l h. absurd (omega arith);
        }

    anchored : (j v : ℕ) → ((nodes j).decision ≡ Some v) ⊎ IsAcknowledged c (nodes j) j o (λ i. (nodes i).owes_ack) v
        → IsAnchored c after phase 4 v
    anchored j v (inl d) = old v (safe.decisions.each j v d)
    anchored j v (inr h) = new v (subst (λ i. (nodes i).proposal ≡ Some v) h.owns h.proposal) h.acks
