-- A listing round keeps the invariants: no value besides an anchored one is proposed.
use Rattle.std.proofs.Common.{inl, inr, ℕ, ◌≡◌, true, Some, sym, ap, subst, ◌∙◌, arith}
use Rattle.std.specs.Prelude.{Contains}
use Rattle.std.proofs.lemmas.Bool.{cases_eq}
use Rattle.round_model.proofs.Common.{Setup, IsSetup, phase_of, part_of, owner, State, LockPair, body_of, IsHeardToSay}
use Rattle.round_model.proofs.Common.{listing, ListingKeeps, Contains-from_lists, listing-keeps, listing-refused}
use Rattle.round_model.proofs.Common.{listed-said_by, Table, messages_heard}
use Rattle.lock_phases.proofs.LockLaws.{is_acceptable-locked}
use Rattle.round_model.proofs.HeardMessages.{heard_of, heard_of-sender, nodes_after}
use Rattle.round_model.proofs.Invariants.{is_locked_since, IsLockSince-from_test, IsAnchored, holders-kept, IsSafe, FlagsMeanFreshLocks-unset}

-- an owner proposes no other value than one that is anchored
proposed-anchored : (c : Setup) (table : Table) (nodes : ℕ → State) (round v w : ℕ) → IsSetup c → part_of round ≡ 1
    → IsAnchored c nodes (phase_of round) 1 v
    → (nodes_after c table nodes round (owner c.n (phase_of round))).proposal ≡ Some w → w ≡ v
proposed-anchored c table nodes round v w setup e a proposes = elim (cases_eq w v) [
  | inl same ↦ same
  | inr other ↦ (
      let few = listing-refused c (nodes o) round (heard_of c table nodes o round) setup e w
      (λ j. is_locked_since a.anchor v (nodes j).locks) proposes (silent other) in
      absurd (omega (arith, a.holders)))
]
  where
    o : ℕ
    o = owner c.n (phase_of round)

    -- who holds v since its anchor lists no other value
    silent : (w ≡ v → ⊥) → (j : ℕ) → is_locked_since a.anchor v (nodes j).locks ≡ true
        → IsHeardToSay (heard_of c table nodes o round) (listing w) j → ⊥
    silent other j s h =
        let said = (heard_of-sender c table nodes o round j h.message h.is_heard).said in
        let acceptable = (listed-said_by (nodes j) (body_of h.message) w said (Contains-from_lists h.message w h.said)).1 in
        let lock = IsLockSince-from_test a.anchor v (nodes j).locks s in
        other (sym (is_acceptable-locked (nodes j).locks w lock.lock acceptable lock.held) ∙ lock.value)

-- the invariants after a listing round
pub IsSafe-listing : (c : Setup) (table : Table) (nodes : ℕ → State) (round : ℕ) → IsSetup c → part_of round ≡ 1
    → IsSafe c nodes (phase_of round) 1 → IsSafe c (nodes_after c table nodes round) (phase_of round) 2
IsSafe-listing c table nodes round setup e safe = record {
  past = record {
    begun = λ j lock d. safe.past.begun j lock (held j lock d);
    earlier = λ l j lock d. safe.past.earlier (omega arith) j lock (held j lock d);
  };
  fresh = record { proposed = λ h. absurd (omega arith) };
  flags = FlagsMeanFreshLocks-unset _ _ _ unflagged;
  decisions = record { each = λ j v d. anchored v (safe.decisions.each j v (sym (keeps j).decision ∙ d)) };
}
  where
    after : ℕ → State
    after = nodes_after c table nodes round

    keeps : (j : ℕ) → ListingKeeps (nodes j) (after j)
    keeps j = listing-keeps c (nodes j) j round (messages_heard c table nodes j round) e

    held : (j : ℕ) (lock : LockPair) → Contains (after j).locks lock → Contains (nodes j).locks lock
    held j lock d = subst (λ xs. Contains xs lock) (keeps j).locks d

    unflagged : (j : ℕ) → (after j).owes_ack ≡ true → ⊥
    unflagged j f = let p = safe.flags.acknowledging j (sym (keeps j).owes_ack ∙ f) in omega arith

    anchored : (v : ℕ) → IsAnchored c nodes (phase_of round) 1 v → IsAnchored c after (phase_of round) 2 v
    anchored v a = record {
      anchor = a.anchor;
      begun = a.begun;
      earlier = λ l. a.earlier (omega arith);
      holders = holders-kept c nodes after a.anchor v (λ j h. ap (is_locked_since a.anchor v) (keeps j).locks ∙ h)
          a.holders;
      sole = λ j lock d l. a.sole j lock (held j lock d) l;
      proposed = λ l h w p. proposed-anchored c table nodes round v w setup e a p;
    }
