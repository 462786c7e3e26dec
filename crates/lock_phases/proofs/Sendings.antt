-- Whether a node sends anything, and what it says if it does (section 3).
use Rattle.std.proofs.Common.{ℕ, ◌≡◌, Bool, true, false, cond, eqb, ◌&&◌, Option, Some, None, refl, sym, ap, ◌∙◌}
use Rattle.std.specs.Prelude.{is_some, option_map}
use Rattle.lock_phases.proofs.Common.{Setup, Kind, Body, phase_of, part_of, owner, Part, Listing, Locking, Acknowledging, Releasing, part_at, State}
use Rattle.lock_phases.specs.declared.bodies.Kind.TheVariants.{List as Listed, Lock, Ack}
use Rattle.lock_phases.specs.NodeFunctions.{kind_in, kind_sent, kind_out, out, values_to_list}

-- whether a node sends anything in each part of a phase: lists and acknowledgements go to the owner,
-- who alone sends Lock messages; locks go to everybody
abbrev pub says_to : Part → State → ℕ → ℕ → ℕ → Bool
says_to Listing s o me to = eqb to o
says_to Locking s o me to = eqb me o && is_some s.proposal
says_to Acknowledging s o me to = s.owes_ack && eqb to o
says_to Releasing s o me to = true

-- that is whether something is said
kind_sent-says_to : (part : Part) (s : State) (o me to : ℕ) → is_some (kind_sent part s o me to) ≡ says_to part s o me to
kind_sent-says_to Listing s o me to = go (eqb to o)
  where
    go : (b : Bool) → is_some (cond b (Some (Listed (values_to_list s))) None) ≡ b
    go true = refl
    go false = refl
kind_sent-says_to Locking s o me to = go (eqb me o) s.proposal
  where
    go : (b : Bool) (proposal : Option ℕ) → is_some (cond b (option_map Lock proposal) None) ≡ (b && is_some proposal)
    go true None = refl
    go true (Some v) = refl
    go false proposal = refl
kind_sent-says_to Acknowledging s o me to = go (s.owes_ack && eqb to o)
  where
    go : (b : Bool) → is_some (cond b (Some Ack) None) ≡ b
    go true = refl
    go false = refl
kind_sent-says_to Releasing s o me to = refl

-- so the part of the round decides whether anything is sent
pub sends_by_part : (c : Setup) (s : State) (me round to : ℕ)
    → is_some (out c s me round to) ≡ says_to (part_at (part_of round)) s (owner c.n (phase_of round)) me to
unfolding out
sends_by_part c s me round to =
    go (kind_out c s me round to) ∙ kind_sent-says_to (part_at (part_of round)) s (owner c.n (phase_of round)) me to
  where
    body : Kind → Body
    body kind = record { kind = kind; proper = s.proper }

    go : (o : Option Kind) → is_some (option_map body o) ≡ is_some o
    go None = refl
    go (Some kind) = refl

-- what a node says in a part of a phase is sent if anything is
kind_sent-kind_in : (part : Part) (s : State) (o me to : ℕ) → says_to part s o me to ≡ true → kind_sent part s o me to ≡ kind_in part s
kind_sent-kind_in Listing s o me to h = ap (λ b. cond b (Some (Listed (values_to_list s))) None) h
kind_sent-kind_in Locking s o me to h = go (eqb me o) h
  where
    go : (b : Bool) → (b && is_some s.proposal) ≡ true → cond b (option_map Lock s.proposal) None ≡ option_map Lock s.proposal
    go true h = refl
    go false h = cc
kind_sent-kind_in Acknowledging s o me to h = ap (λ b. cond b (Some Ack) None) h
kind_sent-kind_in Releasing s o me to h = refl

-- so the part of the round decides what is sent
pub out_by_part : (c : Setup) (s : State) (me round to : ℕ) → is_some (out c s me round to) ≡ true
    → out c s me round to ≡ option_map (λ kind. record { kind = kind; proper = s.proper }) (kind_in (part_at (part_of round)) s)
unfolding out
out_by_part c s me round to h =
    let part = part_at (part_of round) in
    let owns = owner c.n (phase_of round) in
    ap (option_map (λ kind. record { kind = kind; proper = s.proper }))
    (kind_sent-kind_in part s owns me to (sym (sends_by_part c s me round to) ∙ h))
