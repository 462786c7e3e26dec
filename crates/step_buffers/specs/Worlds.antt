-- What a World keeps besides its trace, and what it must be for the trace.
use Rattle.std.specs.Prelude.{ℕ, suc, ◌≡◌, ◌+◌, ◌-◌, ◌<◌, ◌≤◌, ◌↔◌, ◌⊎◌, List, length, Option}
use Rattle.std.specs.Prelude.{Some, None, Contains, Bool, true, false, All, slice_get, IfSome}
use Rattle.step_trace.specs.declared.steps.Step.{Step}
use Rattle.step_trace.specs.Configurations.{Setup, IsSetup}
use Rattle.step_trace.specs.Traces.{Recorded}
use Rattle.step_trace.specs.Ticks.{IsOnePerTick}
use Rattle.step_trace.specs.PushRefusals.{is_taken}
use Rattle.lock_phases.specs.Nodes.{State}
use Rattle.lock_phases.specs.NodeFunctions.{out}
use Rattle.step_buffers.specs.declared.letters.Letter.{Letter}
use Rattle.step_buffers.specs.declared.processors.Processor.{Processor}
use Rattle.round_model.specs.RoundStates.{state_after}
use Rattle.step_buffers.specs.HeardTables.{passed, round_at, heard_table}
use Rattle.step_buffers.specs.Runs.{node_at, body_of, IsSend, destination_after, next_destination, IsRun}
use Rattle.step_buffers.specs.Buffers.{buffer}
use Rattle.step_buffers.specs.Letters.{letter_at}
use Rattle.step_buffers.specs.Inboxes.{Entry, kept_of}
use Rattle.step_buffers.specs.NextSteps.{node_after}

-- p took message s, which was sent in round r or in a later one
pub record IsKept (steps : List Step) (p r s : ℕ) : Type 0 where
  pub sender : ℕ
  pub sent : IsSend steps sender p s
  pub taken : is_taken steps s ≡ true
  pub ahead : r ≤ round_at steps sender s

-- an entry for later is a message to p, with the round in which it was sent
pub record IsEntry (steps : List Step) (p : ℕ) (e : Entry) : Type 0 where
  pub sender : ℕ
  pub sent : IsSend steps sender p e.0.1
  pub round : round_at steps sender e.0.1 ≡ e.0.0

-- the messages of round r and of later ones that p took: those at hand, and those for later with their rounds
pub record IsInbox (steps : List Step) (p r : ℕ) (near : List ℕ) (later : List Entry) : Type 0 where
  pub ids : (s : ℕ) → Contains (kept_of near later) s ↔ IsKept steps p r s
  pub entries : (e : Entry) → Contains later e → IsEntry steps p e

-- what p, with this node, says to a processor in round r
pub record IsSaidTo (c : Setup) (p : ℕ) (node : State) (r to : ℕ) (x : Letter) : Type 0 where
  pub sender : x.sender ≡ p
  pub round : x.round ≡ r
  pub body : out c node p r to ≡ Some x.body

-- a place has what p says to a processor in round r
abbrev pub IsPlaceOf : Setup → ℕ → State → ℕ → ℕ → Option Letter → Type 0
IsPlaceOf c p node r to place = (x : Letter) × (place ≡ Some x) × IsSaidTo c p node r to x

-- what p said in round r to some processor, if it said anything in it
abbrev pub IsSaid : Setup → ℕ → State → ℕ → Option Letter → Type 0
IsSaid c p node r said = IfSome said (λ x. (to : ℕ) × IsSaidTo c p node r to x)

-- p has this decision since a round that it has reached, and in no round before it had one (in round r + 1 it has
-- passed r rounds)
pub record IsDecidedSince (c : Setup) (steps : List Step) (p : ℕ) (decision : Option ℕ) (since : ℕ) : Type 0 where
  pub reached : since ≤ passed steps p + 1
  pub before : (r : ℕ) → r ≤ passed steps p → r + 1 < since → (state_after c (heard_table steps) r p).decision ≡ None
  pub after : (r : ℕ) → r ≤ passed steps p → since ≤ r + 1 → (state_after c (heard_table steps) r p).decision ≡ decision

-- the state of p: its round, its node, since which round it has its decision, its last destination, which gives the
-- next one, and what it said in its round
pub record IsStanding (c : Setup) (steps : List Step) (p r : ℕ) (state : State) (since to : ℕ)
    (letter : Option Letter) : Type 0 where
  pub round : r ≡ passed steps p + 1
  pub node : state ≡ node_at c steps p
  pub decided : IsDecidedSince c steps p state.decision since
  pub last : to ≤ c.n
  pub next : next_destination c steps p (length steps + 1) ≡ destination_after c state p r to
  pub said : IsSaid c p state r letter

-- What is kept of a processor: its state, the messages that wait for it, and those that it took and may hear in its
-- round or a later one.
pub record IsProcessor (c : Setup) (steps : List Step) (p : ℕ) (x : Processor) : Type 0 where
  pub stands : IsStanding c steps p x.round x.node x.since x.last x.said
  pub buffer : x.buffer.items ≡ buffer steps p
  pub inbox : IsInbox steps p x.round x.inbox.near x.inbox.later

-- The node with which the round of p ends once it took these ids, if its round ends. What it keeps for later is then of
-- later rounds.
abbrev pub IsTurnOf : Recorded → ℕ → Processor → Bool → List ℕ → Option State → Type 0
IsTurnOf trace p x ends ids None = ends ≡ false
IsTurnOf trace p x ends ids (Some node) = (ends ≡ true) × (node ≡ node_after trace p ids)
    × All (λ e. x.round < e.0.0) x.inbox.later

-- the message of a Send is kept: who sent it in which round, and what it says
pub record IsLetter (c : Setup) (steps : List Step) (q to s : ℕ) (x : Letter) : Type 0 where
  pub sender : x.sender ≡ q
  pub round : x.round ≡ round_at steps q s
  pub body : body_of c steps q to s ≡ Some x.body

-- the message of a Send is kept in its place; or it is gone, and its receiver has passed the round in which it was sent
abbrev pub IsKeptOrPast : Setup → List Step → List (Option Letter) → ℕ → ℕ → ℕ → Type 0
IsKeptOrPast c steps letters q to s =
    ((x : Letter) × (letter_at letters s ≡ Some x) × IsLetter c steps q to s x)
    ⊎ ((letter_at letters s ≡ None) × (round_at steps q s ≤ passed steps to))

-- the messages that are kept: a place for each step, and in that of each Send its message, as long as it may be heard
pub record AreLetters (c : Setup) (steps : List Step) (letters : List (Option Letter)) : Type 0 where
  pub places : length letters ≡ length steps
  pub messages : (q to s : ℕ) → IsSend steps q to s → IsKeptOrPast c steps letters q to s

-- what is kept of each processor is this, in their order
abbrev pub AreEach : (ℕ → Processor → Type 0) → List Processor → Type 0
AreEach Is kept = (k : ℕ) (x : Processor) → slice_get kept k ≡ Some x → Is (suc k) x

-- what is kept of all processors
pub record AreProcessors (c : Setup) (steps : List Step) (kept : List Processor) : Type 0 where
  pub count : length kept ≡ c.n
  pub each : AreEach (IsProcessor c steps) kept

-- the second is right for the traces and processors that the first is right for
abbrev pub Serves : Processor → Processor → Type 0
Serves x y = (c : Setup) (steps : List Step) (p : ℕ) → IsProcessor c steps p x → IsProcessor c steps p y

-- and the second ones for the traces that the first ones are right for
abbrev pub Serve : List Processor → List Processor → Type 0
Serve kept new = (c : Setup) (steps : List Step) → AreProcessors c steps kept → AreProcessors c steps new

-- the buffer of p has room for one id more
abbrev pub HasRoom : List Processor → ℕ → Type 0
HasRoom kept p = (x : Processor) → slice_get kept (p - 1) ≡ Some x → 0 < x.buffer.room

-- a run with one step in each tick
pub record IsPacedRun (trace : Recorded) : Type 0 where
  pub run : IsRun trace.config trace.steps
  pub one_per_tick : IsOnePerTick trace

-- What a World keeps: a run with one step in each tick, its messages, and what is kept of its processors.
pub record IsWorld (trace : Recorded) (sent : List (Option Letter)) (kept : List Processor) : Type 0 where
  pub setup : IsSetup trace.config
  pub paced : IsPacedRun trace
  pub letters : AreLetters trace.config trace.steps sent
  pub processors : AreProcessors trace.config trace.steps kept
