-- What a node says in each part of a phase.
use Rattle.std.proofs.Common.{ℕ, ◌≡◌, ◌∙◌, ◌⊎◌, inl, inr, Bool, true, false, cond, eqb, ◌&&◌, Option, Some, None, refl, sym, ap, subst, eq-eqb}
use Rattle.std.specs.Prelude.{option_map}
use Rattle.std.proofs.lemmas.Bool.{eqb-true}
use Rattle.lock_phases.proofs.Common.{Setup, Contains-filter, Contains-from_filter, Kind, Body, phase_of, part_of}
use Rattle.lock_phases.proofs.Common.{owner, Listing, Locking, Acknowledging, Releasing, State, is_acceptable}
use Rattle.lock_phases.proofs.Common.{with_proper, IsAddressed, IsListOf}
use Rattle.lock_phases.specs.declared.bodies.Kind.TheVariants.{List as Listed, Lock, Ack, Locks}
use Rattle.lock_phases.specs.NodeFunctions.{out, values_to_list}
use Rattle.lock_phases.proofs.LockLaws.{is_acceptable-locked, is_acceptable-from_locks}
use Rattle.lock_phases.proofs.RoundLaws.{part_of-cases, part_at-listing, part_at-locking, part_at-acknowledging, part_at-releasing, out-in}

-- in a listing round the owner is sent the list
pub list-sent : (c : Setup) (s : State) (me round : ℕ)
    → part_of round ≡ 1 → out c s me round (owner c.n (phase_of round)) ≡ Some (with_proper s (Listed (values_to_list s)))
list-sent c s me round e =
    let o = owner c.n (phase_of round) in
    out-in Listing c s me round o (part_at-listing round e) ∙ rw (eq-eqb o o refl) refl

-- the list has the values that are proper and acceptable
pub list-has : (s : State) → IsListOf s (values_to_list s)
list-has s v = (
  λ d. let r = Contains-from_filter (is_acceptable s.locks) s.proper v d in (r.0, λ lock h. is_acceptable-locked s.locks v lock r.1 h),
  λ h. Contains-filter (is_acceptable s.locks) s.proper v h.0 (is_acceptable-from_locks s.locks v h.1),
)

-- in a locking round the owner tells everybody to lock its proposal
pub lock-sent : (c : Setup) (s : State) (round to v : ℕ)
    → part_of round ≡ 2 → s.proposal ≡ Some v → out c s (owner c.n (phase_of round)) round to ≡ Some (with_proper s (Lock v))
lock-sent c s round to v e p =
    let o = owner c.n (phase_of round) in
    out-in Locking c s o round to (part_at-locking round e) ∙ rw (eq-eqb o o refl, p) refl

-- in an acknowledging round the owner is sent an acknowledgement that is owed
pub acknowledgement-sent : (c : Setup) (s : State) (me round : ℕ)
    → part_of round ≡ 3 → s.owes_ack ≡ true → out c s me round (owner c.n (phase_of round)) ≡ Some (with_proper s Ack)
acknowledgement-sent c s me round e owes =
    let o = owner c.n (phase_of round) in
    out-in Acknowledging c s me round o (part_at-acknowledging round e) ∙ rw (owes, eq-eqb o o refl) refl

-- in a lock-release round everybody is sent the locks
pub locks-sent : (c : Setup) (s : State) (me round to : ℕ) → part_of round ≡ 4 → out c s me round to ≡ Some (with_proper s (Locks s.locks))
locks-sent c s me round to e = out-in Releasing c s me round to (part_at-releasing round e)

-- what is sent is of the part of the phase, and the owner's or to the owner
pub sent-addressed : (c : Setup) (s : State) (me round to : ℕ) (body : Body) → out c s me round to ≡ Some body
    → IsAddressed (part_of round) (owner c.n (phase_of round)) me to body.kind
sent-addressed c s me round to body sent = go (part_of-cases round)
  where
    o : ℕ
    o = owner c.n (phase_of round)

    is : (kind : Kind) → IsAddressed (part_of round) o me to kind
        → Some kind ≡ Some body.kind → IsAddressed (part_of round) o me to body.kind
    is kind h e = let same : kind ≡ body.kind = cc in subst (IsAddressed (part_of round) o me to) same h

    kind_is : (said : Option Kind) → option_map (λ kind. with_proper s kind) said ≡ Some body → said ≡ Some body.kind
    kind_is None h = cc
    kind_is (Some kind) h = let same : with_proper s kind ≡ body = cc in ap (λ (b : Body). Some b.kind) same

    listed : part_of round ≡ 1 → (b : Bool) → eqb to o ≡ b
        → cond b (Some (Listed (values_to_list s))) None ≡ Some body.kind → IsAddressed (part_of round) o me to body.kind
    listed e true t h = is (Listed (values_to_list s)) (e, eqb-true to o t) h
    listed e false t h = cc

    lock : part_of round ≡ 2 → (b : Bool) → eqb me o ≡ b
        → (v : Option ℕ) → cond b (option_map Lock v) None ≡ Some body.kind → IsAddressed (part_of round) o me to body.kind
    lock e true t None h = cc
    lock e true t (Some v) h = is (Lock v) (e, eqb-true me o t) h
    lock e false t v h = cc

    acknowledged : part_of round ≡ 3 → (a b : Bool)
        → eqb to o ≡ b → cond (a && b) (Some Ack) None ≡ Some body.kind → IsAddressed (part_of round) o me to body.kind
    acknowledged e true true t h = is Ack (e, eqb-true to o t) h
    acknowledged e true false t h = cc
    acknowledged e false b t h = cc

    go : (part_of round ≡ 1) ⊎ ((part_of round ≡ 2) ⊎ ((part_of round ≡ 3) ⊎ (part_of round ≡ 4)))
        → IsAddressed (part_of round) o me to body.kind
    go (inl e) = listed e (eqb to o) refl (kind_is _ (sym (out-in Listing c s me round to (part_at-listing round e)) ∙ sent))
    go (inr (inl e)) = lock e (eqb me o) refl s.proposal (kind_is _ (sym (out-in Locking c s me round to (part_at-locking round e)) ∙ sent))
    go (inr (inr (inl e))) = acknowledged e s.owes_ack
        (eqb to o) refl (kind_is _ (sym (out-in Acknowledging c s me round to (part_at-acknowledging round e)) ∙ sent))
    go (inr (inr (inr e))) = is (Locks s.locks) e (kind_is _ (sym (out-in Releasing c s me round to (part_at-releasing round e)) ∙ sent))
