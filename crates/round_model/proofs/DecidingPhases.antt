-- A phase decides if its owner is in a set of at least N - t processors that hear one another in its first three
-- rounds, and that all list one value when it begins.
use Rattle.std.proofs.Common.{ℕ, suc, ◌≡◌, ◌-◌, ◌≤◌, Bool, true, Option, Some, None, is_some, refl, sym, ap, subst, ◌∙◌, arith}
use Rattle.std.specs.Prelude.{Contains, option_map}
use Rattle.round_model.proofs.Common.{Setup, IsSetup, Body, phase_of, part_of, owner, State, Message}
use Rattle.round_model.proofs.Common.{lists-from_Contains, list-sent, lock-sent, acknowledgement-sent, listing-quorum}
use Rattle.round_model.proofs.Common.{locking-keeps, locking-told, acknowledging-quorum, Table, messages_heard}
use Rattle.lock_phases.specs.declared.bodies.Kind.{Kind}
use Rattle.lock_phases.specs.declared.bodies.Kind.TheVariants.{List as Listed, Lock, Ack}
use Rattle.lock_phases.specs.NodeFunctions.{out, values_to_list}
use Rattle.lock_phases.specs.Hearing.{IsHeardToSay, listing, acknowledging, number_of, with_proper}
use Rattle.round_model.proofs.HeardMessages.{heard_of, nodes_after}
use Rattle.round_model.proofs.HeardLists.{messages_heard-has}
use Rattle.round_model.proofs.SendersHeard.{heard_of-heard, messages_heard-rise}
use Rattle.round_model.proofs.OneLock.{HearOneAnother}

-- each member of a set lists this value
abbrev pub IsListedByAll : (ℕ → Bool) → (ℕ → State) → ℕ → Type 0
IsListedByAll member nodes u = (p : ℕ) → member p ≡ true → Contains (values_to_list (nodes p)) u

-- the owner of the phase of a round
abbrev owner_in : Setup → ℕ → ℕ
owner_in c round = owner c.n (phase_of round)

-- what the node of q has to say to p is heard if the table lets it
heard-to_say : (c : Setup) (table : Table) (nodes : ℕ → State) (p round q : ℕ) (kind : Kind) (says : Message → Bool)
    → table p round q ≡ true → out c (nodes q) q round p ≡ Some (with_proper (nodes q) kind)
    → says (q, with_proper (nodes q) kind) ≡ true → IsHeardToSay (heard_of c table nodes p round) says q
heard-to_say c table nodes p round q kind says heard sent passes = record {
  message = (q, with_proper (nodes q) kind);
  is_heard = heard_of-heard c table nodes p round q heard ∙ ap (λ o. option_map (λ (body : Body). (q, body)) o) sent;
  said = passes;
}

-- the listing round: the owner has a proposal
owner-proposes : (c : Setup) (member : ℕ → Bool) (table : Table) (nodes : ℕ → State) (round u : ℕ) → IsSetup c → part_of round ≡ 1
    → member (owner_in c round) ≡ true → HearOneAnother c member table round → c.n - c.t ≤ number_of c.n member
    → IsListedByAll member nodes u → is_some (nodes_after c table nodes round (owner_in c round)).proposal ≡ true
owner-proposes c member table nodes round u setup e mo hear many listed =
    let o = owner_in c round in
    listing-quorum c (nodes o) round (heard_of c table nodes o round) setup e u member many
    (λ q is m.
    heard-to_say c table nodes o round q (Listed (values_to_list (nodes q)))
    (listing u) (hear.hears o q mo m) (list-sent c (nodes q) q round e)
    (lists-from_Contains (q, with_proper (nodes q) (Listed (values_to_list (nodes q)))) u (listed q m)))

-- the locking round: each member owes an acknowledgement of the owner's proposal
members-owe : (c : Setup) (member : ℕ → Bool) (table : Table) (nodes : ℕ → State) (round w p : ℕ)
    → part_of round ≡ 2 → member (owner_in c round) ≡ true → HearOneAnother c member table round
    → (nodes (owner_in c round)).proposal ≡ Some w → member p ≡ true → (nodes_after c table nodes round p).owes_ack ≡ true
members-owe c member table nodes round w p e mo hear proposal mp =
    (locking-told c (nodes p) p round (messages_heard c table nodes p round) w e (messages_heard-rise c table nodes p round)
    (record { message = told; is_heard = is_heard; sender = refl; kind = refl })).owes_ack
  where
    o : ℕ
    o = owner_in c round

    told : Message
    told = (o, with_proper (nodes o) (Lock w))

    is_heard : Contains (messages_heard c table nodes p round) told
    is_heard = messages_heard-has c table nodes p round told
        (record { sender = hear.processors o mo; heard = hear.hears p o mp mo; body = lock-sent c (nodes o) round p w e proposal })

-- the acknowledging round: the owner has decided
owner-decides : (c : Setup) (member : ℕ → Bool) (table : Table) (nodes : ℕ → State) (round w : ℕ) → IsSetup c → part_of round ≡ 3
    → member (owner_in c round) ≡ true → HearOneAnother c member table round → c.n - c.t ≤ number_of c.n member
    → (nodes (owner_in c round)).proposal ≡ Some w → ((p : ℕ) → member p ≡ true → (nodes p).owes_ack ≡ true)
    → is_some (nodes_after c table nodes round (owner_in c round)).decision ≡ true
owner-decides c member table nodes round w setup e mo hear many proposal owe =
    let o = owner_in c round in
    let faults = setup.faults in
    ap is_some (acknowledging-quorum c (nodes o) round (heard_of c table nodes o round) e w member proposal (omega arith)
    (λ q is m. heard-to_say c table nodes o round q Ack acknowledging
    (hear.hears o q mo m) (acknowledgement-sent c (nodes q) q round e (owe q m)) refl))

-- The first three rounds of a phase decide.
pub phase-decides : (c : Setup) (member : ℕ → Bool) (table : Table) (nodes : ℕ → State) (round o u : ℕ) → IsSetup c → 1 ≤ round
    → part_of round ≡ 1 → o ≡ owner c.n (phase_of round) → member o ≡ true → c.n - c.t ≤ number_of c.n member → HearOneAnother c member
    table round → HearOneAnother c member table (suc round) → HearOneAnother c member table (suc (suc round)) → IsListedByAll member nodes u
    → is_some (nodes_after c table (nodes_after c table (nodes_after c table nodes round) (suc round)) (suc (suc round)) o).decision ≡ true
phase-decides c member table nodes round o u setup low e owns mo many first second third listed = go (proposed o).proposal refl proposes
  where
    proposed : ℕ → State
    proposed = nodes_after c table nodes round

    locked : ℕ → State
    locked = nodes_after c table proposed (suc round)

    owns_second : o ≡ owner_in c (suc round)
    owns_second = let same : phase_of round ≡ phase_of (suc round) = omega arith in owns ∙ ap (owner c.n) same

    owns_third : o ≡ owner_in c (suc (suc round))
    owns_third = let same : phase_of round ≡ phase_of (suc (suc round)) = omega arith in owns ∙ ap (owner c.n) same

    is_member : (j : ℕ) → o ≡ j → member j ≡ true
    is_member j same = subst (λ i. member i ≡ true) same mo

    proposes : is_some (proposed o).proposal ≡ true
    proposes = subst (λ j. is_some (proposed j).proposal ≡ true) (sym owns)
        (owner-proposes c member table nodes round u setup e (is_member (owner_in c round) owns) first many listed)

    owe : (w p : ℕ) → (proposed o).proposal ≡ Some w → member p ≡ true → (locked p).owes_ack ≡ true
    owe w p h mp = members-owe c member table proposed (suc round) w p (omega arith) (is_member (owner_in c (suc round)) owns_second) second
        (subst (λ j. (proposed j).proposal ≡ Some w) owns_second h) mp

    kept : (w : ℕ) → (proposed o).proposal ≡ Some w → (locked o).proposal ≡ Some w
    kept w h = (locking-keeps c (proposed o) o (suc round) (messages_heard c table proposed o (suc round)) (omega arith)).proposal ∙ h

    go : (w : Option ℕ) → (proposed o).proposal ≡ w
        → is_some (proposed o).proposal ≡ true → is_some (nodes_after c table locked (suc (suc round)) o).decision ≡ true
    go None h some = let clash = sym some ∙ ap is_some h in cc
    go (Some w) h some = subst (λ j. is_some (nodes_after c table locked (suc (suc round)) j).decision ≡ true) (sym owns_third)
        (owner-decides c member table locked (suc (suc round)) w setup (omega arith) (is_member (owner_in c (suc (suc round))) owns_third)
        third many (subst (λ j. (locked j).proposal ≡ Some w) owns_third (kept w h)) (λ p mp. owe w p h mp))
