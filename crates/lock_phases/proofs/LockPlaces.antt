-- Where the lock on a value is, or belongs, among locks that rise by value.
use Rattle.std.proofs.Common.{ℕ, ◌≡◌, ◌<◌, ◌≤◌, List, [], ◌∷◌, length, get_or, set, refl, ap, zero, suc, arith, eq-eqb}
use Rattle.std.specs.Prelude.{insert}
use Rattle.std.proofs.lemmas.Bool.{lt-ltb, le-ltb, ne_eqb}
use Rattle.lock_phases.proofs.Common.{put_lock, LockPair, value_of}

-- a value below the first one is locked before it
pub put_lock-below : (v p : ℕ) (x : LockPair) (xs : List LockPair) → v < value_of x → put_lock v p (x ∷ xs) ≡ (v, p) ∷ x ∷ xs
put_lock-below v p x xs h = rw (lt-ltb v (value_of x) h) refl

-- a lock on the first value is replaced
pub put_lock-same : (v p : ℕ) (x : LockPair) (xs : List LockPair) → v ≡ value_of x → put_lock v p (x ∷ xs) ≡ (v, p) ∷ xs
put_lock-same v p x xs h = rw (le-ltb v (value_of x) (omega arith), eq-eqb v (value_of x) h) refl

-- a value above the first one is locked after it
pub put_lock-above : (v p : ℕ) (x : LockPair) (xs : List LockPair) → value_of x < v → put_lock v p (x ∷ xs) ≡ x ∷ put_lock v p xs
put_lock-above v p x xs h = rw (le-ltb v (value_of x) (omega arith), ne_eqb v (value_of x) (λ e. omega arith)) refl

-- each lock before place i is on a value below v
abbrev pub AreBelow : ℕ → List LockPair → ℕ → Type 0
AreBelow v xs i = (k : ℕ) (d : LockPair) → k < i → value_of (get_or xs k d) < v

-- the lock on v is at place i
pub put_lock-held : (v p : ℕ) (xs : List LockPair) (i : ℕ) (d : LockPair) → i < length xs → AreBelow v xs i → v ≡ value_of (get_or xs i d)
    → put_lock v p xs ≡ set xs i (v, p)
put_lock-held v p [] i d l b e = absurd (omega arith)
put_lock-held v p (x ∷ xs) zero d l b e = put_lock-same v p x xs e
put_lock-held v p (x ∷ xs) (suc i) d l b e = rw (put_lock-above v p x xs (b zero d (omega arith)))
    (ap (λ ys. x ∷ ys) (put_lock-held v p xs i d (omega arith) (λ k c h. b (suc k) c (omega arith)) e))

-- a lock on v belongs at place i
pub put_lock-fresh : (v p : ℕ) (xs : List LockPair) (i : ℕ) (d : LockPair)
    → i ≤ length xs → AreBelow v xs i → (i < length xs → v < value_of (get_or xs i d)) → put_lock v p xs ≡ insert xs i (v, p)
put_lock-fresh v p [] zero d l b a = refl
put_lock-fresh v p [] (suc i) d l b a = absurd (omega arith)
put_lock-fresh v p (x ∷ xs) zero d l b a = put_lock-below v p x xs (a (omega arith))
put_lock-fresh v p (x ∷ xs) (suc i) d l b a = rw (put_lock-above v p x xs (b zero d (omega arith)))
    (ap (λ ys. x ∷ ys) (put_lock-fresh v p xs i d (omega arith) (λ k c h. b (suc k) c (omega arith)) (λ h. a (omega arith))))
