-- Where the PROPER values, proposal and decision of a node come from, in any round.
use Rattle.std.proofs.Common.{ℕ, ◌≡◌, ◌⊎◌, inl, inr, Bool, true, false, cond, eqb, ◌&&◌, List, map, Option, Some, None, is_some, is_none, refl, sym, subst, ◌∙◌}
use Rattle.std.specs.Prelude.{Contains}
use Rattle.std.specs.List.Sorted.{IsStrictlyIncreasing}
use Rattle.lock_phases.proofs.Common.{Setup, phase_of, part_of, owner, Part, Listing, Locking, Acknowledging, Releasing}
use Rattle.lock_phases.proofs.Common.{part_at, State, IsRising, value_of, Message, take_in, heard_lock, least_listed}
use Rattle.lock_phases.proofs.Common.{IsHeardProper, IsHeardListed, TakesIn}
use Rattle.lock_phases.specs.NodeFunctions.{after_locking, next_in, next}
use Rattle.lock_phases.proofs.RoundLaws.{with_proper_heard}
use Rattle.lock_phases.proofs.ProperLaws.{Contains-take_in_cases, Contains-take_in_old, Contains-take_in_heard}
use Rattle.lock_phases.proofs.QuorumLaws.{least_listed-listed}
use Rattle.lock_phases.proofs.LockingLaws.{after_locking-keeps}
use Rattle.lock_phases.proofs.Rising.{IsStrictlyIncreasing-take_in, IsStrictlyIncreasing-put_lock, IsStrictlyIncreasing-kept_locks}

-- PROPER takes in what was heard in every part of a phase
proper-next : (c : Setup) (s : State) (me round : ℕ) (heard : List Message) → (next c s me round heard).proper ≡ take_in s.proper heard
unfolding next
proper-next c s me round heard = go (part_at (part_of round))
  where
    go : (part : Part) → (next_in part c (with_proper_heard s heard) me (phase_of round) heard).proper ≡ take_in s.proper heard
    go Listing = refl
    go Locking = (after_locking-keeps (with_proper_heard s heard) (phase_of round) (heard_lock (owner c.n (phase_of round)) heard)).proper
    go Acknowledging = refl
    go Releasing = refl

-- PROPER takes in each PROPER that was heard, and nothing else
pub proper-taken_in : (c : Setup) (s : State) (me round : ℕ) (heard : List Message)
    → TakesIn heard s.proper (next c s me round heard).proper
proper-taken_in c s me round heard = subst (TakesIn heard s.proper) (sym (proper-next c s me round heard)) (record {
  stays = Contains-take_in_old s.proper heard;
  taken = Contains-take_in_heard s.proper heard;
  origin = Contains-take_in_cases s.proper heard;
})

-- a PROPER value was there, or in a PROPER that was heard
pub proper-origin : (c : Setup) (s : State) (me round : ℕ) (heard : List Message) (v : ℕ) → Contains (next c s me round heard).proper v
    → Contains s.proper v ⊎ IsHeardProper heard v
proper-origin c s me round heard = (proper-taken_in c s me round heard).origin

-- a proposal was there, or is in a list that was heard
pub proposal-origin : (c : Setup) (s : State) (me round : ℕ) (heard : List Message) (v : ℕ) → (next c s me round heard).proposal ≡ Some v
    → (s.proposal ≡ Some v) ⊎ IsHeardListed heard v
unfolding next
proposal-origin c s me round heard v d = go (part_at (part_of round)) d
  where
    listed : (quorum : ℕ) (b : Bool) → cond b (least_listed quorum heard) s.proposal ≡ Some v
        → (s.proposal ≡ Some v) ⊎ IsHeardListed heard v
    listed quorum true e = inr (least_listed-listed quorum heard v e)
    listed quorum false e = inl e

    go : (part : Part) → (next_in part c (with_proper_heard s heard) me (phase_of round) heard).proposal ≡ Some v
        → (s.proposal ≡ Some v) ⊎ IsHeardListed heard v
    go Listing e = listed _ (eqb me (owner c.n (phase_of round))) e
    go Locking e = inl (sym (after_locking-keeps (with_proper_heard s heard)
        (phase_of round) (heard_lock (owner c.n (phase_of round)) heard)).proposal ∙ e)
    go Acknowledging e = cc
    go Releasing e = inl e

-- a decision was there, or was the proposal
pub decision-origin : (c : Setup) (s : State) (me round : ℕ) (heard : List Message) (v : ℕ) → (next c s me round heard).decision ≡ Some v
    → (s.decision ≡ Some v) ⊎ (s.proposal ≡ Some v)
unfolding next
decision-origin c s me round heard v d = go (part_at (part_of round)) d
  where
    taken : (b : Bool) → cond b s.proposal s.decision ≡ Some v → (s.decision ≡ Some v) ⊎ (s.proposal ≡ Some v)
    taken true e = inr e
    taken false e = inl e

    go : (part : Part) → (next_in part c (with_proper_heard s heard) me (phase_of round) heard).decision ≡ Some v
        → (s.decision ≡ Some v) ⊎ (s.proposal ≡ Some v)
    go Listing e = inl e
    go Locking e = inl (sym (after_locking-keeps (with_proper_heard s heard)
        (phase_of round) (heard_lock (owner c.n (phase_of round)) heard)).decision ∙ e)
    go Acknowledging e = taken _ e
    go Releasing e = inl e

-- the first decision stays
pub decision-stays : (c : Setup) (s : State) (me round : ℕ) (heard : List Message) (v : ℕ)
    → s.decision ≡ Some v → (next c s me round heard).decision ≡ Some v
unfolding next
decision-stays c s me round heard v d = go (part_at (part_of round))
  where
    first : (a b f : Bool) (o : Option ℕ) → o ≡ Some v → cond (a && b && is_none o && f) s.proposal o ≡ Some v
    first true true f None e = cc
    first true true f (Some w) e = e
    first true false f o e = e
    first false b f o e = e

    go : (part : Part) → (next_in part c (with_proper_heard s heard) me (phase_of round) heard).decision ≡ Some v
    go Listing = d
    go Locking =
        (after_locking-keeps (with_proper_heard s heard) (phase_of round) (heard_lock (owner c.n (phase_of round)) heard)).decision ∙ d
    go Acknowledging = first (eqb me (owner c.n (phase_of round))) (is_some s.proposal) _ s.decision d
    go Releasing = d

-- the locks go on rising by value in every part of a phase
locks-rising : (part : Part) (c : Setup) (s : State) (me phase : ℕ) (heard : List Message) → IsStrictlyIncreasing (map value_of s.locks)
    → IsStrictlyIncreasing (map value_of (next_in part c s me phase heard).locks)
locks-rising Listing c s me phase heard h = h
locks-rising Locking c s me phase heard h = go (heard_lock (owner c.n phase) heard)
  where
    go : (asked : Option ℕ) → IsStrictlyIncreasing (map value_of (after_locking s phase asked).locks)
    go None = h
    go (Some v) = IsStrictlyIncreasing-put_lock v phase s.locks h
locks-rising Acknowledging c s me phase heard h = h
locks-rising Releasing c s me phase heard h = IsStrictlyIncreasing-kept_locks heard s.locks h

-- PROPER and the locks go on rising by value
pub rising-stays : (c : Setup) (s : State) (me round : ℕ) (heard : List Message) → IsRising s → IsRising (next c s me round heard)
unfolding next
rising-stays c s me round heard h = record {
  proper = subst IsStrictlyIncreasing (sym (proper-next c s me round heard)) (IsStrictlyIncreasing-take_in s.proper heard h.proper);
  locks = locks-rising (part_at (part_of round)) c (with_proper_heard s heard) me (phase_of round) heard h.locks;
}
