-- After a lock-release round in which the members of a set hear one another, they hold locks on at most one value,
-- which is in the PROPER of each of them. What one of them had in its PROPER, all have.
use Rattle.std.proofs.Common.{ℕ, ◌≡◌, ◌≤◌, inl, inr, Bool, true, List, sym, arith}
use Rattle.std.specs.Prelude.{Contains}
use Rattle.std.proofs.lemmas.Bool.{cases_lt, cases_eq}
use Rattle.round_model.proofs.Common.{Setup, IsProc, part_of, State, LockPair, value_of, phase_of_lock, Message, IsTold}
use Rattle.round_model.proofs.Common.{with_proper, proper-taken_in, locks-sent, releasing-keeps, Table, messages_heard}
use Rattle.lock_phases.specs.declared.bodies.Kind.TheVariants.{Locks}
use Rattle.round_model.proofs.HeardMessages.{nodes_after}
use Rattle.round_model.proofs.HeardLists.{messages_heard-has}
use Rattle.round_model.proofs.ProperNodes.{KeepsProper}

-- The members of a set of processors hear one another in a round.
pub record HearOneAnother (c : Setup) (member : ℕ → Bool) (table : Table) (round : ℕ) : Type 0 where
  pub processors : (p : ℕ) → member p ≡ true → IsProc c p
  pub hears : (p q : ℕ) → member p ≡ true → member q ≡ true → table p round q ≡ true

-- what the node of q says to everybody in a lock-release round
abbrev pub releasing_message : (ℕ → State) → ℕ → Message
releasing_message nodes q = (q, with_proper (nodes q) (Locks (nodes q).locks))

-- it is heard if the table lets it
releasing_message-heard : (c : Setup) (table : Table) (nodes : ℕ → State) (p q round : ℕ)
    → part_of round ≡ 4 → IsProc c q → table p round q ≡ true → Contains (messages_heard c table nodes p round) (releasing_message nodes q)
releasing_message-heard c table nodes p q round e is heard =
    messages_heard-has c table nodes p round (releasing_message nodes q)
    (record { sender = is; heard = heard; body = locks-sent c (nodes q) q round p e })

-- so PROPER values are passed on
pub proper-passed_on : (c : Setup) (table : Table) (nodes : ℕ → State) (p q round v : ℕ) → part_of round ≡ 4
    → IsProc c q → table p round q ≡ true → Contains (nodes q).proper v → Contains (nodes_after c table nodes round p).proper v
proper-passed_on c table nodes p q round v e is heard d = (proper-taken_in c (nodes p) p round (messages_heard c table nodes p round)).taken
    (releasing_message nodes q) v (releasing_message-heard c table nodes p q round e is heard) d

-- no lock stays with p that a lock of q releases
kept-later : (c : Setup) (table : Table) (nodes : ℕ → State) (p q round : ℕ) (lock other : LockPair)
    → part_of round ≡ 4 → IsProc c q → table p round q ≡ true → Contains (nodes_after c table nodes round p).locks lock
    → Contains (nodes q).locks other → phase_of_lock lock ≤ phase_of_lock other → value_of other ≡ value_of lock
kept-later c table nodes p q round lock other e is heard held told later = elim (cases_eq (value_of other) (value_of lock)) [
  | inl same ↦ same
  | inr apart ↦ absurd ((releasing-keeps c (nodes p) p round messages e).released lock
      (record { releasing = other; told = is_told; other = apart; later = later }) held)
]
  where
    messages : List Message
    messages = messages_heard c table nodes p round

    is_told : IsTold messages other
    is_told =
        record { message = releasing_message nodes q; is_heard = releasing_message-heard c table nodes p q round e is heard; tells = told }

-- One lock value: by one lock-release round.
pub held-one_value : (c : Setup) (member : ℕ → Bool) (table : Table) (nodes : ℕ → State) (round : ℕ) → part_of round ≡ 4
    → HearOneAnother c member table round → (p q : ℕ) (lock other : LockPair) → member p ≡ true → member q ≡ true → Contains (nodes_after c
    table nodes round p).locks lock → Contains (nodes_after c table nodes round q).locks other → value_of lock ≡ value_of other
held-one_value c member table nodes round e hear p q lock other mp mq d b = elim (cases_lt (phase_of_lock lock) (phase_of_lock other)) [
  | inl l ↦ sym
      (kept-later c table nodes p q round lock other e (hear.processors q mq) (hear.hears p q mp mq) d (before q other b) (omega arith))
  | inr l ↦ kept-later c table nodes q p round other lock e (hear.processors p mp) (hear.hears q p mq mp) b (before p lock d) (omega arith)
]
  where
    before : (j : ℕ) (x : LockPair) → Contains (nodes_after c table nodes round j).locks x → Contains (nodes j).locks x
    before j x h = (releasing-keeps c (nodes j) j round (messages_heard c table nodes j round) e).locks x h

-- It is in the PROPER of each member.
pub held-proper : (c : Setup) (member : ℕ → Bool) (table : Table) (nodes : ℕ → State) (round : ℕ) → part_of round ≡ 4
    → HearOneAnother c member table round → ((j : ℕ) → KeepsProper (nodes j)) → (p q : ℕ) (lock : LockPair) → member p ≡ true → member q
    ≡ true → Contains (nodes_after c table nodes round p).locks lock → Contains (nodes_after c table nodes round q).proper (value_of lock)
held-proper c member table nodes round e hear known p q lock mp mq d =
    let held = (releasing-keeps c (nodes p) p round (messages_heard c table nodes p round) e).locks lock d in
    proper-passed_on c table nodes q p round (value_of lock) e (hear.processors p mp) (hear.hears q p mq mp) ((known p).locks lock held)
