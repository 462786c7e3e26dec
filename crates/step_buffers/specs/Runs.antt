-- Runs of Algorithm 1: traces in which each step is what its processor does next.
use Rattle.std.specs.Prelude.{ℕ, ◌≡◌, ◌-◌, List, Option, Some, None, true, false, is_some}
use Rattle.std.specs.Prelude.{find, nat_lt, ◌&&◌, filter, count_by, slice_get}
use Rattle.std.specs.List.{range_with_len}
use Rattle.step_trace.specs.declared.steps.Act.{Act}
use Rattle.step_trace.specs.declared.steps.Act.TheVariants.{Send, Receive}
use Rattle.step_trace.specs.declared.steps.Step.{Step}
use Rattle.step_trace.specs.Configurations.{Setup}
use Rattle.step_trace.specs.Traces.{step_at, IsWellFormed}
use Rattle.lock_phases.specs.declared.bodies.Body.{Body}
use Rattle.lock_phases.specs.Nodes.{State}
use Rattle.lock_phases.specs.NodeFunctions.{out}
use Rattle.round_model.specs.RoundStates.{processors, state_after}
use Rattle.step_buffers.specs.HeardTables.{passed, before, round_at, is_sent_in, heard_table}

-- the node of p: what the rounds that it passed made of it, by who heard whom
abbrev pub node_at : Setup → List Step → ℕ → State
node_at c steps p = state_after c (heard_table steps) (passed steps p) p

-- the node of p at step k
abbrev pub node_before : Setup → List Step → ℕ → ℕ → State
node_before c steps p k = state_after c (heard_table steps) (passed (before steps k) p) p

-- The body of message s, of q to a processor: what the node of q had to send when it was sent. (None if it
-- had nothing to send to it.)
abbrev pub body_of : Setup → List Step → ℕ → ℕ → ℕ → Option Body
body_of c steps q to s = out c (node_before c steps q s) q (round_at steps q s) to

-- s is a message of q to a processor
abbrev pub IsSend : List Step → ℕ → ℕ → ℕ → Type 0
IsSend steps q to s = step_at steps s ≡ Some (record { proc = q; act = Send to })

-- the processors, rising, to which p has something to send in a round
abbrev pub destinations : Setup → State → ℕ → ℕ → List ℕ
destinations c node p round = filter (λ to. is_some (out c node p round to)) (processors c)

-- how many messages p sent in its round r before step k
abbrev pub sent_before : List Step → ℕ → ℕ → ℕ → ℕ
sent_before steps p r k = count_by (λ s. is_sent_in steps p r s) (range_with_len 1 (k - 1))

-- Where p sends next, if it were to take step k: after so many Sends of its round, the destination that
-- follows so many others. None if all are out.
unfoldable pub next_destination : Setup → List Step → ℕ → ℕ → Option ℕ
next_destination c steps p k =
    slice_get
    (destinations c (node_before c steps p k) p (round_at steps p k))
    (sent_before steps p (round_at steps p k) k)

-- the least destination above the last one, or the first one of all if the last is 0
abbrev pub destination_after : Setup → State → ℕ → ℕ → ℕ → Option ℕ
destination_after c node p round last = find (λ to. nat_lt last to && is_some (out c node p round to)) (processors c)

-- What a processor may do that sends next to this destination: send to it. Or end its round, if all messages
-- of its round are out. It may always take messages without ending its round.
abbrev pub IsDue : Option ℕ → Act → Type 0
IsDue next (Send to) = next ≡ Some to
IsDue next (Receive true ids) = next ≡ None
IsDue next (Receive false ids) = Unit {0}

-- A run: a well-formed trace in which each Send goes to the next destination, in rising order, to which its
-- processor has something to send in its round. A step ends a round only after all these are out.
pub record IsRun (c : Setup) (steps : List Step) : Type 0 where
  pub well_formed : IsWellFormed c steps
  pub each : (k : ℕ) (x : Step) → step_at steps k ≡ Some x → IsDue (next_destination c steps x.proc k) x.act
