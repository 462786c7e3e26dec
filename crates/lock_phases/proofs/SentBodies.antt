-- What a body says about the node that sends it (section 3).
use Rattle.std.proofs.Common.{ℕ, ◌≡◌, Bool, true, false, cond, eqb, ◌&&◌, Option, Some, None, refl, subst}
use Rattle.std.specs.Prelude.{Contains, option_map}
use Rattle.lock_phases.proofs.Common.{Setup, Contains-nil, Contains-from_filter, Kind, Body, phase_of, part_of, owner}
use Rattle.lock_phases.proofs.Common.{Part, Listing, Locking, Acknowledging, Releasing, part_at, State, LockPair}
use Rattle.lock_phases.proofs.Common.{listed_values, is_ack, told_locks, is_acceptable, Says, IsSaidBy}
use Rattle.lock_phases.specs.declared.bodies.Kind.TheVariants.{List as Listed, Lock, Ack, Locks}
use Rattle.lock_phases.specs.NodeFunctions.{kind_sent, out, values_to_list}

-- what is sent says so
kind_sent-says : (part : Part) (s : State) (owner me to : ℕ) (kind : Kind) → kind_sent part s owner me to ≡ Some kind → Says s kind
kind_sent-says part s owner me to kind e = go part e
  where
    is : (k : Kind) → Says s k → Some k ≡ Some kind → Says s kind
    is k says h = let same : k ≡ kind = cc in subst (Says s) same says

    listed : (b : Bool) → cond b (Some (Listed (values_to_list s))) None ≡ Some kind → Says s kind
    listed true h = is (Listed (values_to_list s)) refl h
    listed false h = cc

    lock : (b : Bool) (o : Option ℕ) → s.proposal ≡ o → cond b (option_map Lock o) None ≡ Some kind → Says s kind
    lock true None p h = cc
    lock true (Some v) p h = is (Lock v) p h
    lock false o p h = cc

    flagged : (a b : Bool) → s.owes_ack ≡ a → cond (a && b) (Some Ack) None ≡ Some kind → Says s kind
    flagged true true p h = is Ack p h
    flagged true false p h = cc
    flagged false b p h = cc

    go : (p : Part) → kind_sent p s owner me to ≡ Some kind → Says s kind
    go Listing h = listed (eqb to owner) h
    go Locking h = lock (eqb me owner) s.proposal refl h
    go Acknowledging h = flagged s.owes_ack (eqb to owner) refl h
    go Releasing h = is (Locks s.locks) refl h

-- each body that is sent says what is so of its sender
pub out-said_by : (c : Setup) (s : State) (me round to : ℕ) (body : Body) → out c s me round to ≡ Some body → IsSaidBy s body
unfolding out
out-said_by c s me round to body sent = go (kind_sent (part_at (part_of round)) s (owner c.n (phase_of round)) me to) refl sent
  where
    says : (kind : Kind) → kind_sent (part_at (part_of round)) s (owner c.n (phase_of round)) me to ≡ Some kind → Says s kind
    says kind e = kind_sent-says (part_at (part_of round)) s (owner c.n (phase_of round)) me to kind e

    go : (o : Option Kind) → kind_sent (part_at (part_of round)) s (owner c.n (phase_of round)) me to ≡ o
        → option_map (λ kind. record { kind = kind; proper = s.proper }) o ≡ Some body → IsSaidBy s body
    go None e h = cc
    go (Some kind) e h =
        let same : record { kind = kind; proper = s.proper } ≡ body = cc in
        subst (IsSaidBy s) same (record { says = says kind e; proper = refl })

-- a value that is listed is proper and acceptable
pub listed-said_by : (s : State) (body : Body) (v : ℕ)
    → IsSaidBy s body → Contains (listed_values body.kind) v → Contains s.proper v × (is_acceptable s.locks v ≡ true)
listed-said_by s body v said d = go body.kind said.says d
  where
    go : (k : Kind) → Says s k → Contains (listed_values k) v → Contains s.proper v × (is_acceptable s.locks v ≡ true)
    go (Listed values) e h = Contains-from_filter (is_acceptable s.locks) s.proper v (subst (λ xs. Contains xs v) e h)
    go (Lock w) e h = absurd (Contains-nil v h)
    go Ack e h = absurd (Contains-nil v h)
    go (Locks pairs) e h = absurd (Contains-nil v h)

-- a Lock says the proposal
pub lock-said_by : (s : State) (body : Body) (v : ℕ) → IsSaidBy s body → body.kind ≡ Lock v → s.proposal ≡ Some v
lock-said_by s body v said e = subst (Says s) e said.says

-- an acknowledgement says that its sender owes it
pub ack-said_by : (s : State) (body : Body) → IsSaidBy s body → is_ack body.kind ≡ true → s.owes_ack ≡ true
ack-said_by s body said e = go body.kind said.says e
  where
    go : (k : Kind) → Says s k → is_ack k ≡ true → s.owes_ack ≡ true
    go (Listed values) e h = cc
    go (Lock w) e h = cc
    go Ack e h = e
    go (Locks pairs) e h = cc

-- a lock that is sent is held
pub told-said_by : (s : State) (body : Body) (lock : LockPair)
    → IsSaidBy s body → Contains (told_locks body.kind) lock → Contains s.locks lock
told-said_by s body lock said d = go body.kind said.says d
  where
    go : (k : Kind) → Says s k → Contains (told_locks k) lock → Contains s.locks lock
    go (Listed values) e h = absurd (Contains-nil lock h)
    go (Lock w) e h = absurd (Contains-nil lock h)
    go Ack e h = absurd (Contains-nil lock h)
    go (Locks pairs) e h = subst (λ xs. Contains xs lock) e h
