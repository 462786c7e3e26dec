-- The node functions of Algorithm 1 (section 3): what a node sends in a round, and its state after the round.
use Rattle.std.specs.Prelude.{ℕ, ◌+◌, ◌-◌, List, Option, Some, None, Bool, true, false, ◌&&◌, ◌==◌}
use Rattle.std.specs.Prelude.{nat_le, is_some, is_none, filter, option_map, if◌then◌else◌}
use Rattle.step_trace.specs.Configurations.{Setup}
use Rattle.lock_phases.specs.declared.bodies.Kind.{Kind}
use Rattle.lock_phases.specs.declared.bodies.Kind.TheVariants.{List as Listed, Lock, Ack, Locks}
use Rattle.lock_phases.specs.declared.bodies.Body.{Body}
use Rattle.lock_phases.specs.Rounds.{phase_of, part_of, owner, Part, Listing, Locking}
use Rattle.lock_phases.specs.Rounds.{Acknowledging, Releasing, part_at}
use Rattle.lock_phases.specs.Nodes.{State}
use Rattle.lock_phases.specs.Messages.{Message}
use Rattle.lock_phases.specs.Values.{take_in}
use Rattle.lock_phases.specs.Locks.{is_acceptable, heard_lock, put_lock, kept_locks}
use Rattle.lock_phases.specs.Quorums.{least_listed, acks}

-- the values that a node lists: those that are acceptable and proper
abbrev pub values_to_list : State → List ℕ
values_to_list s = filter (is_acceptable s.locks) s.proper

-- What a node says in each part of a phase, of this owner. Each processor sends the owner its acceptable
-- proper values. The owner tells everybody to lock its proposal, if it has one. Each processor that owes an
-- acknowledgement sends it to the owner. Everybody sends everybody its locks, possibly none.
abbrev pub kind_sent : Part → State → ℕ → ℕ → ℕ → Option Kind
kind_sent Listing s owner me to = if to == owner then Some (Listed (values_to_list s)) else None
kind_sent Locking s owner me to = if me == owner then option_map Lock s.proposal else None
kind_sent Acknowledging s owner me to = if s.owes_ack && to == owner then Some Ack else None
kind_sent Releasing s owner me to = Some (Locks s.locks)

-- what a node says in each part of a phase to whomever it says anything
abbrev pub kind_in : Part → State → Option Kind
kind_in Listing s = Some (Listed (values_to_list s))
kind_in Locking s = option_map Lock s.proposal
kind_in Acknowledging s = Some Ack
kind_in Releasing s = Some (Locks s.locks)

-- what processor `me` in state s says to a processor in a round
abbrev pub kind_out : Setup → State → ℕ → ℕ → ℕ → Option Kind
kind_out c s me round to = kind_sent (part_at (part_of round)) s (owner c.n (phase_of round)) me to

-- what it sends to that processor in the round: PROPER goes with all that it says
unfoldable pub out : Setup → State → ℕ → ℕ → ℕ → Option Body
out c s me round to = option_map (λ kind. record { kind = kind; proper = s.proper }) (kind_out c s me round to)

-- after a listing round: an owner proposes the least value in at least N - t of the lists that it heard
abbrev pub after_listing : Setup → State → Bool → List Message → State
after_listing c s owns heard = record s { proposal = if owns then least_listed (c.n - c.t) heard else s.proposal }

-- after a locking round: a node that was asked to lock a value holds it, and owes an acknowledgement
abbrev pub after_locking : State → ℕ → Option ℕ → State
after_locking s phase None = s
after_locking s phase (Some v) = record s { locks = put_lock v phase s.locks; owes_ack = true }

-- an owner decides that has a proposal, at least t + 1 acknowledgements and no decision yet
abbrev pub decides : Setup → State → Bool → List Message → Bool
decides c s owns heard = owns && is_some s.proposal && is_none s.decision && nat_le (c.t + 1) (acks heard)

-- after an acknowledging round: an owner that decides has its proposal for a decision; no node has a
-- proposal or owes an acknowledgement any more
abbrev pub after_acknowledging : Setup → State → Bool → List Message → State
after_acknowledging c s owns heard = record s {
  decision = if decides c s owns heard then s.proposal else s.decision;
  proposal = None;
  owes_ack = false;
}

-- after a lock-release round: the locks stay that no lock heard releases
abbrev pub after_releasing : State → List Message → State
after_releasing s heard = record s { locks = kept_locks heard s.locks }

-- what becomes of a node in each part of a phase
abbrev pub next_in : Part → Setup → State → ℕ → ℕ → List Message → State
next_in Listing c s me phase heard = after_listing c s (me == owner c.n phase) heard
next_in Locking c s me phase heard = after_locking s phase (heard_lock (owner c.n phase) heard)
next_in Acknowledging c s me phase heard = after_acknowledging c s (me == owner c.n phase) heard
next_in Releasing c s me phase heard = after_releasing s heard

-- what becomes of it in a round, PROPER aside
abbrev pub after_part : Setup → State → ℕ → ℕ → List Message → State
after_part c s me round heard = next_in (part_at (part_of round)) c s me (phase_of round) heard

-- processor `me` in state s after a round in which it heard these messages: each PROPER is taken in first
unfoldable pub next : Setup → State → ℕ → ℕ → List Message → State
next c s me round heard = after_part c (record s { proper = take_in s.proper heard }) me round heard
