-- The messages that were sent, by their names and the nodes that they are for.
use Rattle.std.specs.Prelude.{ℕ, List, [], ◌∷◌, ◌++◌, Option, position, slice_get, if◌then◌else◌}
use Rattle.std.specs.Int.{w64, to_be_bytes}
use Rattle.std.specs.Option.{option_and_then, option_or}
use Rattle.std.specs.Str.{bytes_eq}
use Rattle.trace_text.specs.Names.{has_name}
use Rattle.event_log.specs.Names.{with_name}

-- the names that were sent, and the places of their first sends; and the copies, which have a name
-- that was sent before, to another node, and the places of their sends
pub record Sent : Type 0 where
  pub names : List (List ℕ)
  pub firsts : List ℕ
  pub copies : List (List ℕ)
  pub copied : List ℕ

-- no messages
abbrev pub none_sent : Sent
none_sent = record { names = []; firsts = []; copies = []; copied = [] }

-- a copy: the number of the node that it is for, in eight bytes, and its name
unfoldable pub copy_of : ℕ → List ℕ → List ℕ
copy_of to name = to_be_bytes w64 to ++ name

-- one more name, which the event at a place sends
abbrev pub with_first : ℕ → List ℕ → Sent → Sent
with_first place name sent = record sent { names = with_name sent.names name; firsts = sent.firsts ++ place ∷ [] }

-- one more copy, which the event at a place sends
abbrev pub with_copy : ℕ → List ℕ → Sent → Sent
with_copy place copy sent = record sent { copies = with_name sent.copies copy; copied = sent.copied ++ place ∷ [] }

-- one more message, which the event at a place sends to a node: a copy, if its name was sent before
abbrev pub with_send : ℕ → ℕ → List ℕ → Sent → Sent
with_send place to name sent =
    if has_name sent.names name then with_copy place (copy_of to name) sent else with_first place name sent

-- the place that goes with a name, if it is among these
abbrev pub place_in : List (List ℕ) → List ℕ → List ℕ → Option ℕ
place_in names places name = option_and_then (λ i. slice_get places i) (position (bytes_eq name) names)

-- The place of the event that sent a name to a node: of the copy for this node, or else of the first send of the name.
-- So of a name that was sent to other nodes alone it is the first send.
abbrev pub place_for : Sent → ℕ → List ℕ → Option ℕ
place_for sent to name =
    option_or (place_in sent.copies sent.copied (copy_of to name)) (place_in sent.names sent.firsts name)
