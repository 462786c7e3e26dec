-- Which locks a node has after one is put or some are released, and which values are acceptable with them.
use Rattle.std.proofs.Common.{ℕ, ◌≡◌, ◌<◌, ◌≤◌, ◌⊎◌, inl, inr, Bool, true, false, cond, not, ltb, eqb, leb, ◌&&◌, List, [], ◌∷◌, map, refl, sym, ap, ◌∙◌, zero, arith, Some, eq-eqb}
use Rattle.std.specs.Prelude.{Contains}
use Rattle.std.specs.List.{list_any}
use Rattle.std.specs.List.Sorted.{IsStrictlyIncreasing}
use Rattle.std.proofs.lemmas.Bool.{eqb-true, ne_eqb, leb-true, le-leb, and_parts, not-true}
use Rattle.lock_phases.proofs.Common.{Contains-head, Contains-rest, Contains-nil, Contains-filter, Contains-from_filter}
use Rattle.lock_phases.proofs.Common.{Contains-map, list_any-found, list_any-at, rising-tail, rising-first, Kind}
use Rattle.lock_phases.proofs.Common.{LockPair, value_of, phase_of_lock, Message, sender_of, body_of, locked_value}
use Rattle.lock_phases.proofs.Common.{told_locks, is_acceptable, heard_lock, put_lock, releases, is_released}
use Rattle.lock_phases.proofs.Common.{kept_locks, IsToldToLock, IsTold, IsReleasedByTold}
use Rattle.lock_phases.specs.declared.bodies.Kind.TheVariants.{List as Listed, Lock, Ack, Locks}
use Rattle.lock_phases.proofs.Membership.{Contains-cons_cases}

-- a lock that is held after v was locked is that one, or was held before
pub Contains-put_lock_cases : (v p : ℕ) (locks : List LockPair) (z : LockPair) → Contains (put_lock v p locks) z
    → (z ≡ (v, p)) ⊎ Contains locks z
Contains-put_lock_cases v p [] z c = Contains-cons_cases (v, p) z [] c
Contains-put_lock_cases v p (x ∷ xs) z c = go (ltb v (value_of x)) (eqb v (value_of x)) c (Contains-put_lock_cases v p xs z)
  where
    rest : (z ≡ (v, p)) ⊎ Contains xs z → (z ≡ (v, p)) ⊎ Contains (x ∷ xs) z
    rest (inl h) = inl h
    rest (inr h) = inr (Contains-rest x z xs h)

    go : (b d : Bool) → Contains (cond b ((v, p) ∷ x ∷ xs) (cond d ((v, p) ∷ xs) (x ∷ put_lock v p xs))) z
        → (Contains (put_lock v p xs) z → (z ≡ (v, p)) ⊎ Contains xs z) → (z ≡ (v, p)) ⊎ Contains (x ∷ xs) z
    go true d h f = Contains-cons_cases (v, p) z (x ∷ xs) h
    go false true h f = rest (Contains-cons_cases (v, p) z xs h)
    go false false h f = elim (Contains-cons_cases x z (put_lock v p xs) h) [
      | inl first ↦ inr (zero, omega arith, sym first)
      | inr later ↦ rest (f later)
    ]

-- the lock that was put is held
pub Contains-put_lock_new : (v p : ℕ) (locks : List LockPair) → Contains (put_lock v p locks) (v, p)
Contains-put_lock_new v p [] = Contains-head (v, p) []
Contains-put_lock_new v p (x ∷ xs) = go (ltb v (value_of x)) (eqb v (value_of x)) (Contains-put_lock_new v p xs)
  where
    go : (b d : Bool) → Contains (put_lock v p xs) (v, p)
        → Contains (cond b ((v, p) ∷ x ∷ xs) (cond d ((v, p) ∷ xs) (x ∷ put_lock v p xs))) (v, p)
    go true d f = Contains-head (v, p) (x ∷ xs)
    go false true f = Contains-head (v, p) xs
    go false false f = Contains-rest x (v, p) (put_lock v p xs) f

-- a lock on another value stays
pub Contains-put_lock_old : (v p : ℕ) (locks : List LockPair) (z : LockPair) → Contains locks z → (value_of z ≡ v → ⊥)
    → Contains (put_lock v p locks) z
Contains-put_lock_old v p [] z c n = absurd (Contains-nil z c)
Contains-put_lock_old v p (x ∷ xs) z c n = go (ltb v (value_of x))
    (eqb v (value_of x)) refl (Contains-cons_cases x z xs c) (λ h. Contains-put_lock_old v p xs z h n) where
      go : (b d : Bool) → eqb v (value_of x) ≡ d → (z ≡ x) ⊎ Contains xs z
          → (Contains xs z → Contains (put_lock v p xs) z)
          → Contains (cond b ((v, p) ∷ x ∷ xs) (cond d ((v, p) ∷ xs) (x ∷ put_lock v p xs))) z
      go true d e (inl h) f = Contains-rest (v, p) z (x ∷ xs) (zero, omega arith, sym h)
      go true d e (inr h) f = Contains-rest (v, p) z (x ∷ xs) (Contains-rest x z xs h)
      go false true e (inl h) f = absurd (n (ap value_of h ∙ sym (eqb-true v (value_of x) e)))
      go false true e (inr h) f = Contains-rest (v, p) z xs h
      go false false e (inl h) f = (zero, omega arith, sym h)
      go false false e (inr h) f = Contains-rest x z (put_lock v p xs) (f h)

-- no value but an acceptable one is locked
pub is_acceptable-locked : (locks : List LockPair) (v : ℕ) (z : LockPair) → is_acceptable locks v ≡ true
    → Contains locks z → value_of z ≡ v
is_acceptable-locked [] v z a c = absurd (Contains-nil z c)
is_acceptable-locked (x ∷ xs) v z a c = go (eqb (value_of x) v) refl a
    (Contains-cons_cases x z xs c) (λ t h. is_acceptable-locked xs v z t h) where
      go : (b : Bool) → eqb (value_of x) v ≡ b → (b && is_acceptable xs v) ≡ true → (z ≡ x) ⊎ Contains xs z
          → (is_acceptable xs v ≡ true → Contains xs z → value_of z ≡ v) → value_of z ≡ v
      go true e t (inl h) f = ap value_of h ∙ eqb-true (value_of x) v e
      go true e t (inr h) f = f t h
      go false e t h f = cc

-- a value is acceptable if no other is locked
pub is_acceptable-from_locks : (locks : List LockPair) (v : ℕ) → ((z : LockPair) → Contains locks z → value_of z ≡ v)
    → is_acceptable locks v ≡ true
is_acceptable-from_locks [] v f = refl
is_acceptable-from_locks (x ∷ xs) v f =
    rw (eq-eqb (value_of x) v (f x (Contains-head x xs))) (is_acceptable-from_locks xs v (λ z h. f z (Contains-rest x z xs h)))

-- a value that was asked to be locked comes from a Lock of the owner
pub heard_lock-from_owner : (owner : ℕ) (heard : List Message) (v : ℕ) → heard_lock owner heard ≡ Some v
    → IsToldToLock owner heard v
heard_lock-from_owner owner [] v e = cc
heard_lock-from_owner owner (m ∷ rest) v e = go (eqb (sender_of m) owner) refl e (heard_lock-from_owner owner rest v)
  where
    lock_is : (k : Kind) → locked_value k ≡ Some v → k ≡ Lock v
    lock_is (Listed vs) e = cc
    lock_is (Lock w) e = cc
    lock_is Ack e = cc
    lock_is (Locks ps) e = cc

    go : (b : Bool) → eqb (sender_of m) owner ≡ b
        → cond b (locked_value (body_of m).kind) (heard_lock owner rest) ≡ Some v
        → (heard_lock owner rest ≡ Some v → IsToldToLock owner rest v) → IsToldToLock owner (m ∷ rest) v
    go true t h f =
        record { message = m; is_heard = Contains-head m rest; sender = eqb-true (sender_of m) owner t; kind = lock_is (body_of m).kind h }
    go false t h f =
        let told = f h in
        record {
          message = told.message;
          is_heard = Contains-rest m told.message rest told.is_heard;
          sender = told.sender;
          kind = told.kind;
        }

-- the value of the owner's Lock that is heard was asked to be locked, if the senders rise
pub heard_lock-told : (owner : ℕ) (heard : List Message) (v : ℕ) → IsStrictlyIncreasing (map sender_of heard)
    → IsToldToLock owner heard v → heard_lock owner heard ≡ Some v
heard_lock-told owner [] v rise told = absurd (Contains-nil told.message told.is_heard)
heard_lock-told owner (m ∷ rest) v rise told =
    go (eqb (sender_of m) owner) refl (Contains-cons_cases m told.message rest told.is_heard)
    (λ d. heard_lock-told owner rest v (rising-tail (sender_of m) (map sender_of rest) rise)
    (record { message = told.message; is_heard = d; sender = told.sender; kind = told.kind }))
  where
    below : Contains rest told.message → sender_of m < sender_of told.message
    below d = rising-first (sender_of m) (map sender_of rest) rise (sender_of told.message) (Contains-map sender_of rest told.message d)

    go : (b : Bool) → eqb (sender_of m) owner ≡ b → (told.message ≡ m) ⊎ Contains rest told.message
        → (Contains rest told.message → heard_lock owner rest ≡ Some v)
        → cond b (locked_value (body_of m).kind) (heard_lock owner rest) ≡ Some v
    go true t (inl h) f = ap (λ (x : Message). locked_value (body_of x).kind) (sym h) ∙ ap locked_value told.kind
    go true t (inr d) f =
        let l = below d in let mine = eqb-true (sender_of m) owner t in let theirs = told.sender in absurd (omega arith)
    go false t (inl h) f = let clash = sym (eq-eqb (sender_of m) owner (ap sender_of (sym h) ∙ told.sender)) ∙ t in cc
    go false t (inr d) f = f d

-- a lock that is kept was held, and no lock heard releases it
pub Contains-from_kept_locks : (heard : List Message) (locks : List LockPair) (z : LockPair)
    → Contains (kept_locks heard locks) z → Contains locks z × (is_released heard z ≡ false)
Contains-from_kept_locks heard locks z c =
    let r = Contains-from_filter (λ lock. not (is_released heard lock)) locks z c in (r.0, not-true (is_released heard z) r.1)

-- a lock that no lock heard releases is kept
pub Contains-kept_locks : (heard : List Message) (locks : List LockPair) (z : LockPair) → Contains locks z
    → is_released heard z ≡ false → Contains (kept_locks heard locks) z
Contains-kept_locks heard locks z c e = Contains-filter (λ lock. not (is_released heard lock)) locks z c (ap not e)

-- what is released is released by a heard lock
pub is_released-by : (heard : List Message) (z : LockPair) → is_released heard z ≡ true → IsReleasedByTold heard z
is_released-by heard z e =
    let m = list_any-found (λ n. list_any (λ told. releases told z) (told_locks (body_of n).kind)) heard e in
    let told = list_any-found (λ t. releases t z) (told_locks (body_of m.0).kind) m.2 in
    let b = and_parts (not (eqb (value_of told.0) (value_of z))) (leb (phase_of_lock z) (phase_of_lock told.0)) told.2 in
    record {
      releasing = told.0;
      told = record { message = m.0; is_heard = m.1; tells = told.1 };
      other = λ h. not_false (eqb (value_of told.0) (value_of z)) b.0 (eq-eqb (value_of told.0) (value_of z) h);
      later = leb-true (phase_of_lock z) (phase_of_lock told.0) b.1;
    }
  where
    not_false : (b : Bool) → not b ≡ true → b ≡ true → ⊥
    not_false true e f = cc
    not_false false e f = cc

-- a heard lock releases each lock on another value of no higher phase
pub is_released-told : (heard : List Message) (z told : LockPair) → IsTold heard told → (value_of told ≡ value_of z → ⊥)
    → phase_of_lock z ≤ phase_of_lock told → is_released heard z ≡ true
is_released-told heard z told t n l =
    list_any-at (λ m. list_any (λ x. releases x z) (told_locks (body_of m).kind)) heard t.message t.is_heard
    (list_any-at (λ x. releases x z) (told_locks (body_of t.message).kind) told t.tells
    (rw (ne_eqb (value_of told) (value_of z) n, le-leb (phase_of_lock z) (phase_of_lock told) l) refl))
