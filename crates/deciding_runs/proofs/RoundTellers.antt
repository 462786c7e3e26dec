-- Who tells a processor anything in a round is among those whom it may hear, by its own node.
use Rattle.std.proofs.Common.{ℕ, zero, suc, ◌≡◌, inl, inr, Bool, true, false, ◌==◌, ◌&&◌, ◌||◌, not, cond, Option, Some, None, is_some, refl, sym, ap, subst, ◌∙◌, arith}
use Rattle.std.specs.Prelude.{option_map}
use Rattle.std.proofs.lemmas.Bool.{eqb-true, and_parts, and_from}
use Rattle.deciding_runs.proofs.Common.{Setup, Body, phase_of, part_of, owner, Listing, Locking, Acknowledging, State, messages_heard-said, state_after-opening, state_after-next, may_hear}
use Rattle.lock_phases.specs.declared.bodies.Kind.{Kind}
use Rattle.lock_phases.specs.declared.bodies.Kind.TheVariants.{Lock, Ack}
use Rattle.lock_phases.specs.Messages.{sender_of}
use Rattle.lock_phases.specs.NodeFunctions.{out}
use Rattle.lock_phases.specs.Hearing.{IsToldToLock, Says}
use Rattle.lock_phases.proofs.RoundLaws.{part_of-cases, part_at-listing, part_at-locking, part_at-acknowledging, part_at-releasing, out-in}
use Rattle.lock_phases.proofs.ListingLaws.{listing-keeps}
use Rattle.lock_phases.proofs.LockingLaws.{locking-keeps, locking-untold}
use Rattle.lock_phases.proofs.AcknowledgingLaws.{acknowledging-keeps}
use Rattle.lock_phases.proofs.ReleasingLaws.{releasing-keeps}
use Rattle.round_model.specs.RoundStates.{Table, messages_heard, state_after}

-- at the beginning of a phase nobody owes an acknowledgement
owes-none : (c : Setup) (table : Table) (rounds q : ℕ) → part_of (suc rounds) ≡ 1 → (state_after c table rounds q).owes_ack ≡ false
owes-none c table zero q e = ap (λ (s : State). s.owes_ack) (state_after-opening c table q)
owes-none c table (suc zero) q e = absurd (omega arith)
owes-none c table (suc (suc rounds)) q e =
    let last : part_of (suc (suc rounds)) ≡ 4 = omega arith in
    let third : part_of (suc rounds) ≡ 3 = omega arith in
    ap (λ (s : State). s.owes_ack) (state_after-next c table (suc rounds) q)
    ∙ (releasing-keeps c (state_after c table (suc rounds) q) q
    (suc (suc rounds)) (messages_heard c table (state_after c table (suc rounds)) q (suc (suc rounds))) last).owes_ack
    ∙ ap (λ (s : State). s.owes_ack) (state_after-next c table rounds q)
    ∙ (acknowledging-keeps c (state_after c table rounds q) q
    (suc rounds) (messages_heard c table (state_after c table rounds) q (suc rounds)) third).owes_ack

-- after the listing round neither
owes-none_listed : (c : Setup) (table : Table) (rounds q : ℕ)
    → part_of (suc rounds) ≡ 1 → (state_after c table (suc rounds) q).owes_ack ≡ false
owes-none_listed c table rounds q e = ap (λ (s : State). s.owes_ack) (state_after-next c table rounds q)
    ∙ (listing-keeps c (state_after c table rounds q) q
    (suc rounds) (messages_heard c table (state_after c table rounds) q (suc rounds)) e).owes_ack ∙ owes-none c table rounds q e

-- who is told to lock is told by an owner with a proposal
told-proposal : (c : Setup) (table : Table) (rounds q o v : ℕ) → IsToldToLock o
    (messages_heard c table (state_after c table rounds) q (suc rounds)) v → (state_after c table rounds o).proposal ≡ Some v
told-proposal c table rounds q o v told =
    let said = (messages_heard-said c table (state_after c table rounds) q (suc rounds) told.message told.is_heard).said in
    subst (λ j. (state_after c table rounds j).proposal ≡ Some v) told.sender
    (subst (Says (state_after c table rounds (sender_of told.message))) told.kind said.says)

-- who owes an acknowledgement in an acknowledging round owes it to an owner with a proposal
owes-proposal : (c : Setup) (table : Table) (rounds q o : ℕ) → part_of (suc rounds) ≡ 1 → o ≡ owner c.n (phase_of (suc (suc rounds)))
    → (state_after c table (suc (suc rounds)) q).owes_ack ≡ true → is_some (state_after c table (suc (suc rounds)) o).proposal ≡ true
owes-proposal c table rounds q o e owns owes = go (state_after c table (suc rounds) o).proposal refl
  where
    second : part_of (suc (suc rounds)) ≡ 2
    second = omega arith

    kept : (state_after c table (suc (suc rounds)) o).proposal ≡ (state_after c table (suc rounds) o).proposal
    kept = ap (λ (s : State). s.proposal) (state_after-next c table (suc rounds) o) ∙ (locking-keeps c (state_after c table (suc rounds) o)
        o (suc (suc rounds)) (messages_heard c table (state_after c table (suc rounds)) o (suc (suc rounds))) second).proposal

    untold : (state_after c table (suc rounds) o).proposal ≡ None → (state_after c table (suc (suc rounds)) q).owes_ack ≡ false
    untold none = ap (λ (s : State). s.owes_ack) (state_after-next c table (suc rounds) q)
        ∙ (locking-untold c (state_after c table (suc rounds) q) q (suc (suc rounds))
        (messages_heard c table (state_after c table (suc rounds)) q (suc (suc rounds))) second (λ v told. let clash = sym
        (told-proposal c table (suc rounds) q o v (subst (λ j. IsToldToLock j (messages_heard c table (state_after c table (suc rounds)) q
        (suc (suc rounds))) v) (sym owns) told)) ∙ none in cc)).owes_ack ∙ owes-none_listed c table rounds q e

    go : (proposal : Option ℕ) → (state_after c table (suc rounds) o).proposal ≡ proposal
        → is_some (state_after c table (suc (suc rounds)) o).proposal ≡ true
    go None h = let clash = sym (untold h) ∙ owes in cc
    go (Some v) h = ap is_some (kept ∙ h)

-- a choice that gives something was made for it
chosen : {X : Type 0} (b : Bool) (o : Option X) (x : X) → cond b o None ≡ Some x → b ≡ true
chosen true o x h = refl
chosen false o x h = cc

-- what is said is of a kind
kind-of : {X Y : Type 0} (f : X → Y) (o : Option X) (y : Y) → option_map f o ≡ Some y → (x : X) × (o ≡ Some x)
kind-of f None y h = cc
kind-of f (Some x) y h = (x, refl)

-- and it was made of something
chosen-gives : {X : Type 0} (b : Bool) (o : Option X) (x : X) → cond b o None ≡ Some x → o ≡ Some x
chosen-gives true o x h = h
chosen-gives false o x h = cc

-- whom the owner tells to lock
locking-may_hear : (c : Setup) (nodes : ℕ → State) (round p q : ℕ) (body : Body) → part_of round ≡ 2 → out c (nodes q) q round p ≡ Some body
    → may_hear c (nodes p) round p q ≡ true
locking-may_hear c nodes round p q body e said = rw (part_at-locking round e)
    (and_from (q == o) (not (p == o) || is_some (nodes p).proposal) owns (either (p == o) refl)) where
      o : ℕ
      o = owner c.n (phase_of round)

      kind : (k : Kind) × (cond {A = Option Kind} (q == o) (option_map Lock (nodes q).proposal) None ≡ Some k)
      kind = kind-of _ _ body (sym (out-in Locking c (nodes q) q round p (part_at-locking round e)) ∙ said)

      owns : (q == o) ≡ true
      owns = chosen (q == o) (option_map Lock (nodes q).proposal) kind.0 kind.1

      proposal : (v : ℕ) × ((nodes q).proposal ≡ Some v)
      proposal = kind-of Lock (nodes q).proposal kind.0 (chosen-gives (q == o) (option_map Lock (nodes q).proposal) kind.0 kind.1)

      either : (b : Bool) → (p == o) ≡ b → (not b || is_some (nodes p).proposal) ≡ true
      either false h = refl
      either true h =
          let same : p ≡ q = eqb-true p o h ∙ sym (eqb-true q o owns) in
          subst (λ j. is_some (nodes j).proposal ≡ true) (sym same) (ap is_some proposal.1)

-- the owner of an acknowledgement that is owed has a proposal
owed-proposal : (c : Setup) (table : Table) (rounds q o : ℕ) → part_of (suc rounds) ≡ 3 → o ≡ owner c.n (phase_of (suc rounds))
    → (state_after c table rounds q).owes_ack ≡ true → is_some (state_after c table rounds o).proposal ≡ true
owed-proposal c table zero q o e owns owes = absurd (omega arith)
owed-proposal c table (suc zero) q o e owns owes = absurd (omega arith)
owed-proposal c table (suc (suc rounds)) q o e owns owes =
    let same : phase_of (suc (suc (suc rounds))) ≡ phase_of (suc (suc rounds)) = omega arith in
    owes-proposal c table rounds q o (omega arith) (owns ∙ ap (owner c.n) same) owes

-- who acknowledges
acknowledging-may_hear : (c : Setup) (table : Table) (rounds p q : ℕ) (body : Body) → part_of (suc rounds) ≡ 3
    → out c (state_after c table rounds q) q (suc rounds) p ≡ Some body → may_hear c (state_after c table rounds p) (suc rounds) p q ≡ true
acknowledging-may_hear c table rounds p q body e said =
    let kind = kind-of _ _ body
    (sym (out-in Acknowledging c (state_after c table rounds q) q (suc rounds) p (part_at-acknowledging (suc rounds) e)) ∙ said) in
    let both = and_parts (state_after c table rounds q).owes_ack
    (p == o) (chosen ((state_after c table rounds q).owes_ack && p == o) (Some Ack) kind.0 kind.1) in
    rw (part_at-acknowledging (suc rounds) e)
    (and_from (p == o) (is_some (state_after c table rounds p).proposal) both.1
    (owed-proposal c table rounds q p e (eqb-true p o both.1) both.0))
  where
    o : ℕ
    o = owner c.n (phase_of (suc rounds))

-- Who tells p anything is among those whom p may hear.
pub tells-may_hear : (c : Setup) (table : Table) (rounds p q : ℕ) (body : Body)
    → out c (state_after c table rounds q) q (suc rounds) p ≡ Some body → may_hear c (state_after c table rounds p) (suc rounds) p q ≡ true
tells-may_hear c table rounds p q body said = elim (part_of-cases (suc rounds)) [
  | inl e ↦
      let kind = kind-of _ _ body (sym (out-in Listing c (nodes q) q (suc rounds) p (part_at-listing (suc rounds) e)) ∙ said) in
      rw (part_at-listing (suc rounds) e) (chosen (p == o) _ kind.0 kind.1)
  | inr (inl e) ↦ locking-may_hear c nodes (suc rounds) p q body e said
  | inr (inr (inl e)) ↦ acknowledging-may_hear c table rounds p q body e said
  | inr (inr (inr e)) ↦ rw (part_at-releasing (suc rounds) e) refl
]
  where
    nodes : ℕ → State
    nodes = state_after c table rounds

    o : ℕ
    o = owner c.n (phase_of (suc rounds))
