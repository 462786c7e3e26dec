-- After a lock-release round in which the members of a set hear one another, there is a value that each of them lists.
-- It is the one that is locked in the set, or any proper one if none is.
use Rattle.std.proofs.Common.{ℕ, ◌≡◌, Bool, true, false, ◌&&◌, List, [], ◌∷◌, refl, sym, ◌∙◌}
use Rattle.std.specs.Prelude.{Contains}
use Rattle.std.specs.List.{list_any}
use Rattle.std.proofs.lemmas.Bool.{and_parts}
use Rattle.round_model.proofs.Common.{Setup, Contains-head, Contains-nil, list_any-found, list_any-at, part_of, State, LockPair, value_of, list-has, Table, processors}
use Rattle.round_model.proofs.HeardMessages.{nodes_after}
use Rattle.round_model.proofs.HeardLists.{Contains-processors}
use Rattle.round_model.proofs.ProperNodes.{KeepsProper}
use Rattle.round_model.proofs.OneLock.{HearOneAnother, proper-passed_on, held-one_value, held-proper}
use Rattle.round_model.proofs.DecidingPhases.{IsListedByAll}

-- whether there is a lock
abbrev has_lock : List LockPair → Bool
has_lock [] = false
has_lock (lock ∷ rest) = true

-- then it is held
has_lock-found : (locks : List LockPair) → has_lock locks ≡ true → (lock : LockPair) × Contains locks lock
has_lock-found [] e = let clash : ⊥ = cc in absurd clash
has_lock-found (lock ∷ rest) e = (lock, Contains-head lock rest)

-- if one is held there is one
has_lock-at : (locks : List LockPair) (lock : LockPair) → Contains locks lock → has_lock locks ≡ true
has_lock-at [] lock d = absurd (Contains-nil lock d)
has_lock-at (x ∷ rest) lock d = refl

-- the value that each lists
pub common-value : (c : Setup) (member : ℕ → Bool) (table : Table) (nodes : ℕ → State) (round o v : ℕ)
    → part_of round ≡ 4 → HearOneAnother c member table round → ((j : ℕ) → KeepsProper (nodes j))
    → member o ≡ true → Contains (nodes o).proper v → (u : ℕ) × IsListedByAll member (nodes_after c table nodes round) u
common-value c member table nodes round o v e hear known mo proper = go (list_any holds (processors c)) refl
  where
    after : ℕ → State
    after = nodes_after c table nodes round

    holds : ℕ → Bool
    holds p = member p && has_lock (after p).locks

    locked : (p : ℕ) (lock : LockPair) → member p ≡ true → Contains (after p).locks lock → IsListedByAll member after (value_of lock)
    locked p lock mp d q mq = (list-has (after q) (value_of lock)).1 (
      held-proper c member table nodes round e hear known p q lock mp mq d,
      λ z h. held-one_value c member table nodes round e hear q p z lock mq mp h d,
    )

    clash : (q : ℕ) (z : LockPair) → list_any holds (processors c) ≡ false → member q ≡ true → Contains (after q).locks z → ⊥
    clash q z f mq h =
        let test : holds q ≡ true = rw (mq, has_lock-at (after q).locks z h) refl in
        let found = list_any-at holds (processors c) q (Contains-processors c q (hear.processors q mq)) test in
        let both = sym found ∙ f in
        cc

    go : (b : Bool) → list_any holds (processors c) ≡ b → (u : ℕ) × IsListedByAll member after u
    go true f =
        let p = list_any-found holds (processors c) f in
        let parts = and_parts (member p.0) (has_lock (after p.0).locks) p.2 in
        let lock = has_lock-found (after p.0).locks parts.1 in
        (value_of lock.0, locked p.0 lock.0 parts.0 lock.1)
    go false f = (
      v,
      λ q mq. (list-has (after q) v).1 (
        proper-passed_on c table nodes q o round v e (hear.processors o mo) (hear.hears q o mq mo) proper,
        λ z h. absurd (clash q z f mq h),
      ),
    )
