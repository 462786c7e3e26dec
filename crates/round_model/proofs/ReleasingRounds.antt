-- A lock-release round keeps the invariants: no lock on an anchored value is released, held since its anchor.
use Rattle.std.proofs.Common.{ℕ, ◌≡◌, ◌+◌, ◌≤◌, true, sym, ◌∙◌, arith}
use Rattle.round_model.proofs.Common.{Setup, phase_of, part_of, State, LockPair, value_of, phase_of_lock, IsTold}
use Rattle.round_model.proofs.Common.{ReleasingKeeps, releasing-keeps, told-said_by, Table, messages_heard, sender_of}
use Rattle.round_model.proofs.Common.{body_of}
use Rattle.round_model.proofs.HeardMessages.{nodes_after, messages_heard-said}
use Rattle.round_model.proofs.Invariants.{is_locked_since, IsLockSince-from_test, is_locked_since-lock, IsAnchored, holders-kept, IsSafe, FlagsMeanFreshLocks-unset}

-- the invariants after a lock-release round
pub IsSafe-releasing : (c : Setup) (table : Table) (nodes : ℕ → State) (round : ℕ) → part_of round ≡ 4 → IsSafe c nodes (phase_of round) 4
    → IsSafe c (nodes_after c table nodes round) (phase_of round + 1) 1
IsSafe-releasing c table nodes round e safe = record {
  past = record {
    begun = λ j lock d. let l = safe.past.begun j lock ((keeps j).locks lock d) in omega arith;
    earlier = λ _ j lock d. let l = safe.past.begun j lock ((keeps j).locks lock d) in omega arith;
  };
  fresh = record { proposed = λ h. absurd (omega arith) };
  flags = FlagsMeanFreshLocks-unset _ _ _ unflagged;
  decisions = record { each = λ j v d. anchored v (safe.decisions.each j v (sym (keeps j).decision ∙ d)) };
}
  where
    after : ℕ → State
    after = nodes_after c table nodes round

    keeps : (j : ℕ) → ReleasingKeeps (nodes j) (after j) (messages_heard c table nodes j round)
    keeps j = releasing-keeps c (nodes j) j round (messages_heard c table nodes j round) e

    unflagged : (j : ℕ) → (after j).owes_ack ≡ true → ⊥
    unflagged j f = let p = safe.flags.acknowledging j (sym (keeps j).owes_ack ∙ f) in omega arith

    -- what is heard since the anchor is the anchored value
    told : (v : ℕ) (a : IsAnchored c nodes (phase_of round) 4 v) (j : ℕ) (lock : LockPair)
        → IsTold (messages_heard c table nodes j round) lock → a.anchor ≤ phase_of_lock lock → value_of lock ≡ v
    told v a j lock t l =
        let h = messages_heard-said c table nodes j round t.message t.is_heard in
        a.sole (sender_of t.message) lock (told-said_by (nodes (sender_of t.message)) (body_of t.message) lock h.said t.tells) l

    still : (v : ℕ) (a : IsAnchored c nodes (phase_of round) 4 v) (j : ℕ) → is_locked_since a.anchor v (nodes j).locks ≡ true
        → is_locked_since a.anchor v (after j).locks ≡ true
    still v a j h =
        let x = IsLockSince-from_test a.anchor v (nodes j).locks h in
        let since = x.since in
        let kept = (keeps j).held x.lock x.held (λ r. let later = r.later in
        r.other (told v a j r.releasing r.told (omega arith) ∙ sym x.value)) in
        is_locked_since-lock a.anchor v (after j).locks x.lock kept x.value x.since

    anchored : (v : ℕ) → IsAnchored c nodes (phase_of round) 4 v → IsAnchored c after (phase_of round + 1) 1 v
    anchored v a = record {
      anchor = a.anchor;
      begun = (let l = a.begun in omega arith);
      earlier = λ _. let l = a.begun in omega arith;
      holders = holders-kept c nodes after a.anchor v (λ j h. still v a j h) a.holders;
      sole = λ j lock d l. a.sole j lock ((keeps j).locks lock d) l;
      proposed = λ l h. absurd (omega arith);
    }
