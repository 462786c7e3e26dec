-- The pace "heard out" (own): what a processor does next, and which of its Receives ends its round.
use Rattle.std.specs.Prelude.{ℕ, ◌≡◌, ◌+◌, ◌<◌, ◌≤◌, ◌-◌, List, Some, Bool, true, false, IsTrue, is_some, is_none, not}
use Rattle.std.specs.Prelude.{nat_le, ◌==◌, ◌&&◌, ◌||◌, if◌then◌else◌, length, take, map, fold, replicate, slice_set}
use Rattle.step_trace.specs.declared.steps.Act.TheVariants.{Receive}
use Rattle.step_trace.specs.declared.steps.Step.{Step}
use Rattle.step_trace.specs.Configurations.{Setup}
use Rattle.step_trace.specs.Traces.{step_at}
use Rattle.step_trace.specs.Processors.{has_proc, IsWithin}
use Rattle.lock_phases.specs.Hearing.{number_of}
use Rattle.lock_phases.specs.Rounds.{part_of}
use Rattle.lock_phases.specs.Nodes.{State}
use Rattle.step_buffers.specs.HeardTables.{passed, round_at}
use Rattle.step_buffers.specs.Runs.{node_at, node_before}
use Rattle.step_buffers.specs.Buffers.{buffer}
use Rattle.step_buffers.specs.Origins.{sender_of, round_ahead}
use Rattle.step_buffers.specs.declared.moves.Move.{Move}
use Rattle.step_buffers.specs.declared.moves.Move.TheVariants as move
use Rattle.step_buffers.specs.declared.moves.Take.TheVariants.{All}
use Rattle.step_buffers.specs.Moves.{next_send}
use Rattle.deciding_runs.specs.declared.peers.Peer.{Peer}
use Rattle.deciding_runs.specs.Audible.{may_hear_all}
use Rattle.deciding_runs.specs.HeardOut.{HasHeardOf, TakesAll}
use Rattle.deciding_runs.specs.Peers.{unheard, peer_of, after_hearing, after_phase}
use Rattle.deciding_runs.specs.Peers.{is_left_behind, awaited_count, heard_count}

-- what contracts see of a Pace: what was heard of each processor; of how many something must be heard if all may say
-- something; how many Receives a round may take; and how many it may take still
pub record Paced : Type 0 where
  pub peers : List Peer
  pub quorum : ℕ
  pub patience : ℕ
  pub left : ℕ

-- the pace before the first round
abbrev pub opening_pace : Setup → ℕ → Paced
opening_pace c patience =
    record { peers = replicate c.n unheard; quorum = c.n - c.t; patience = patience; left = patience }

-- All has been heard that the round can bring: nobody is waited for, and if all may say something, a quorum has been
-- heard of.
abbrev pub is_complete : Setup → State → ℕ → ℕ → Paced → Bool
is_complete c node round p x = awaited_count c node round p x.peers == 0 &&
    (not (may_hear_all c node round p) || nat_le x.quorum (heard_count round x.peers))

-- The round is over: it is complete, or somebody is more than a phase ahead, or this is the last Receive that it may
-- take.
abbrev pub is_over : Setup → State → ℕ → ℕ → Paced → Bool
is_over c node round p x = is_complete c node round p x || is_left_behind round x.peers || nat_le x.left 1

-- p hears message s
abbrev pub heard_message : List Step → ℕ → List Peer → ℕ → List Peer
heard_message steps p peers s =
    slice_set peers (sender_of steps s - 1) (after_hearing (round_ahead steps p s) (peer_of peers (sender_of steps s)))

-- p hears all that waits for it
abbrev pub heard_waiting : List Step → ℕ → Paced → Paced
heard_waiting steps p x = record x { peers = fold (heard_message steps p) x.peers (buffer steps p) }

-- p hears these messages
abbrev pub heard_ids : List Step → ℕ → List ℕ → Paced → Paced
heard_ids steps p ids x = record x { peers = fold (heard_message steps p) x.peers ids }

-- whether a Receive of p that takes these messages ends its round
abbrev pub ends_taking : Setup → List Step → ℕ → List ℕ → Paced → Bool
ends_taking c steps p ids x = is_over c (node_at c steps p) (passed steps p + 1) p (heard_ids steps p ids x)

-- whether the next Receive of p ends its round
abbrev pub ends_round : Setup → List Step → ℕ → Paced → Bool
ends_round c steps p x = is_over c (node_at c steps p) (passed steps p + 1) p (heard_waiting steps p x)

-- The move of p by its pace: a Send, if it has something to send; else a Receive of all that waits. The Receive ends
-- the round if the round is over with what it takes.
abbrev pub paced_move : Setup → List Step → ℕ → Paced → Move
paced_move c steps p x = if is_some (next_send c steps p) then move.Send else move.Receive All (ends_round c steps p x)

-- whether p has nothing to do until a message comes: nothing to send, and nothing that waits, and its round isn't over
abbrev pub is_idle : Setup → List Step → ℕ → Paced → Bool
is_idle c steps p x = is_none (next_send c steps p) && length
    (buffer steps p) == 0 && not (is_over c (node_at c steps p) (passed steps p + 1) p x)

-- after a Receive that ended the round
abbrev pub after_round : ℕ → Paced → Paced
after_round round x =
    record x { peers = if part_of round == 4 then map (after_phase round) x.peers else x.peers; left = x.patience }

-- after a Receive that didn't
abbrev pub after_wait : Paced → Paced
after_wait x = record x { left = x.left - 1 }

-- after a Receive of a round
abbrev pub after_receive : Bool → ℕ → Paced → Paced
after_receive ends round x = if ends then after_round round x else after_wait x

-- the pace of p after its move
abbrev pub after_move : Setup → List Step → ℕ → Paced → Paced
after_move c steps p x =
    if is_some (next_send c steps p) then x else after_receive (ends_round c steps p x) (passed steps p + 1)
    (heard_waiting steps p x)

-- What p has heard of the others it has heard in the trace: of whom it took a message of this round.
abbrev pub WereHeard : List Step → ℕ → List Peer → Type 0
WereHeard steps p peers = (q : ℕ) → 1 ≤ q → 0 < (peer_of peers q).latest
    → HasHeardOf steps p q (peer_of peers q).latest (length steps)

-- A round of p that its pace ended as complete, with the step that ended it. What was noted by then was heard, and p
-- still waited for each member of the set. So no patience ended it, and p wasn't left behind.
pub record EndsComplete (c : Setup) (steps : List Step) (set p round : ℕ) : Type 0 where
  pub place : ℕ
  pub ids : List ℕ
  pub step : step_at steps place ≡ Some (record { proc = p; act = Receive true ids })
  pub round_is : round_at steps p place ≡ round
  pub pace : Paced
  pub heard : WereHeard (take place steps) p pace.peers
  pub complete : is_complete c (node_before c steps p place) round p pace ≡ true
  pub waited : (q : ℕ) → IsTrue (has_proc set q) → (peer_of pace.peers q).suspected ≡ false

-- A set of at least N - t processors that take all that waits for them. Their paces end each of some rounds as
-- complete.
pub record EndRoundsComplete (c : Setup) (steps : List Step) (set first last : ℕ) : Type 0 where
  pub within : IsWithin set c.n
  pub size : c.n - c.t ≤ number_of c.n (has_proc set)
  pub numbered : 1 ≤ first
  pub takes : (p : ℕ) → IsTrue (has_proc set p) → TakesAll steps p
  pub rounds : (p round : ℕ) → IsTrue (has_proc set p) → first ≤ round → round ≤ last → EndsComplete c steps set p round
