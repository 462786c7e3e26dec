-- Two small traces, worked: a message that comes late, and one that comes early.
use Rattle.std.proofs.Common.{ℕ, ◌≡◌, List, [], ◌∷◌, ◌++◌, Some, None, true, false, refl}
use Rattle.step_buffers.proofs.Common.{Send, Receive, Step, Setup}
use Rattle.lock_phases.specs.NodeFunctions.{out, next}
use Rattle.round_model.specs.RoundStates.{state_after}
use Rattle.step_buffers.specs.HeardTables.{passed, heard_table}
use Rattle.step_buffers.specs.Runs.{node_at, next_destination}

abbrev two : Setup
two = record { n = 2; t = 0; init = 5 ∷ 7 ∷ [] }

abbrev send : ℕ → ℕ → Step
send p to = record { proc = p; act = Send to }

abbrev takes : ℕ → List ℕ → Step
takes p ids = record { proc = p; act = Receive false ids }

abbrev ends : ℕ → List ℕ → Step
ends p ids = record { proc = p; act = Receive true ids }

abbrev late : List Step
late = send 2 1 ∷ send 1 1 ∷ ends 1 (2 ∷ []) ∷ ends 1 (1 ∷ []) ∷ []

abbrev early : List Step
early = send 2 1 ∷ ends 2 [] ∷ ends 2 [] ∷ ends 2 [] ∷ send 2 1 ∷ send 2 2 ∷ takes 1
    (5 ∷ []) ∷ send 1 1 ∷ ends 1 (8 ∷ []) ∷ ends 1 [] ∷ ends 1 [] ∷ send 1 1 ∷ send 1 2 ∷ []

late-passed : passed late 1 ≡ 2
late-passed = refl

late-own : heard_table late 1 1 1 ≡ true
unfolding heard_table
late-own = refl

late-dropped : heard_table late 1 1 2 ≡ false
unfolding heard_table
late-dropped = refl

late-not_in_next : heard_table late 1 2 2 ≡ false
unfolding heard_table
late-not_in_next = refl

late-proper : (node_at two late 1).proper ≡ 5 ∷ []
unfolding heard_table state_after next out
late-proper = refl

early-not_yet : heard_table early 1 4 2 ≡ false
unfolding heard_table
early-not_yet = refl

early-then : heard_table (early ++ ends 1 [] ∷ []) 1 4 2 ≡ true
unfolding heard_table
early-then = refl

early-proper : (node_at two early 1).proper ≡ 5 ∷ []
unfolding heard_table state_after next out
early-proper = refl

early-proper_then : (node_at two (early ++ ends 1 [] ∷ []) 1).proper ≡ 5 ∷ 7 ∷ []
unfolding heard_table state_after next out
early-proper_then = refl

early-first : next_destination two early 2 5 ≡ Some 1
unfolding next_destination heard_table state_after next out
early-first = refl

early-second : next_destination two early 2 6 ≡ Some 2
unfolding next_destination heard_table state_after next out
early-second = refl

early-all_out : next_destination two early 2 7 ≡ None
unfolding next_destination heard_table state_after next out
early-all_out = refl

early-ends : next_destination two early 1 14 ≡ None
unfolding next_destination heard_table state_after next out
early-ends = refl

early-nothing_to_send : next_destination two early 1 10 ≡ None
unfolding next_destination heard_table state_after next out
early-nothing_to_send = refl

late-own_list : next_destination two late 1 2 ≡ Some 1
unfolding next_destination heard_table state_after next out
late-own_list = refl
