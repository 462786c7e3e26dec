-- Kept messages: a place for each step, which has the message of a Send until nobody can hear it.
use Rattle.std.specs.Prelude.{ℕ, zero, suc, List, [], ◌∷◌, ◌++◌, Option, Some, None, ◌==◌, ◌&&◌}
use Rattle.std.specs.Prelude.{nat_lt, filter, slice_index_or, option_map, if◌then◌else◌}
use Rattle.std.specs.Option.{option_map_or, option_or}
use Rattle.std.specs.List.{filter_map, range_with_len}
use Rattle.lock_phases.specs.declared.bodies.Body.{Body}
use Rattle.lock_phases.specs.Messages.{Message}
use Rattle.step_buffers.specs.declared.letters.Letter.{Letter}
use Rattle.step_buffers.specs.Moves.{is_in}

-- the message of this id, which counts from 1
abbrev pub letter_at : List (Option Letter) → ℕ → Option Letter
letter_at letters zero = None
letter_at letters (suc k) = slice_index_or letters k None

-- the round in which it was sent, or 0
abbrev pub round_of : List (Option Letter) → ℕ → ℕ
round_of letters s = option_map_or (λ x. x.round) (letter_at letters s) 0

-- the message of an id, after those of these ids were dropped that were sent in an earlier round than this
-- one
abbrev pub letter_left : List (Option Letter) → List ℕ → ℕ → ℕ → Option Letter
letter_left letters ids round s = if is_in ids s && nat_lt (round_of letters s) round then None else letter_at letters s

-- the body of a message that q sent
abbrev pub said_by : ℕ → Option Letter → Option Body
said_by q None = None
said_by q (Some x) = if x.sender == q then Some x.body else None

-- what q says in the first of these messages that is its own
abbrev pub body_from : List (Option Letter) → List ℕ → ℕ → Option Body
body_from letters [] q = None
body_from letters (s ∷ rest) q = option_or (said_by q (letter_at letters s)) (body_from letters rest q)

-- what each of n processors says in these messages, in the order of the senders
abbrev pub heard_from : List (Option Letter) → List ℕ → ℕ → List Message
heard_from letters ids n = filter_map (λ q. option_map (λ body. (q, body)) (body_from letters ids q))
    (range_with_len 1 n)

-- those of these messages that were sent in a round
abbrev pub of_round : List (Option Letter) → ℕ → List ℕ → List ℕ
of_round letters round ids = filter (λ s. round_of letters s == round) ids

-- what each of n processors says in those messages of two lists that were sent in a round
abbrev pub heard_in : List (Option Letter) → List ℕ → List ℕ → ℕ → ℕ → List Message
heard_in letters inbox taken round n =
    heard_from letters (of_round letters round inbox ++ of_round letters round taken) n
