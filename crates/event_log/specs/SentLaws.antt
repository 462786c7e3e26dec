-- Messages that are taken in one after the other, and from which of them a node takes a name.
use Rattle.std.specs.Prelude.{ℕ, ◌≡◌, ◌==◌, ◌<◌, ◌^◌, ◌&&◌, All, List, [], ◌∷◌, ◌++◌}
use Rattle.std.specs.Prelude.{Option, Some, None, Bool, false, ⊤, if◌then◌else◌}
use Rattle.std.specs.List.{list_any}
use Rattle.std.specs.Option.{option_or}
use Rattle.std.specs.Str.{bytes_eq}
use Rattle.event_log.specs.SentMessages.{Sent, none_sent, place_for, with_send}

-- a message: its name, the node that it is for, and the place of the event that sends it
pub record Message : Type 0 where
  pub name : List ℕ
  pub to : ℕ
  pub place : ℕ

-- what was sent, once these messages were taken in too
unfoldable pub taken_in : Sent → List Message → Sent
taken_in sent [] = sent
taken_in sent (m ∷ more) = taken_in (with_send m.place m.to m.name sent) more

abbrev pub is_named : List ℕ → Message → Bool
is_named name m = bytes_eq name m.name

abbrev pub is_message : ℕ → List ℕ → Message → Bool
is_message to name m = bytes_eq name m.name && (m.to == to)

-- the place of the first of these messages that passes a test
unfoldable pub first_place : (Message → Bool) → List Message → Option ℕ
first_place test [] = None
first_place test (m ∷ more) = if test m then Some m.place else first_place test more

-- the send of the message that a node takes by a name: of this name to this node, or else the first send of this name
abbrev pub expected : List Message → ℕ → List ℕ → Option ℕ
expected messages to name = option_or (first_place (is_message to name) messages) (first_place (is_named name) messages)

-- after some messages, these have no name again for the same node
unfoldable pub AreOnce : List Message → List Message → Type 0
AreOnce done [] = ⊤
AreOnce done (m ∷ more) = (list_any (is_message m.to m.name) done ≡ false) × AreOnce (done ++ m ∷ []) more

-- if no name goes to a node twice, each is found where it is expected
abbrev pub AreFound : Type 0
AreFound = (messages : List Message) (to : ℕ) (name : List ℕ) → to < 2 ^ 64 → All (λ m. m.to < 2 ^ 64) messages
    → AreOnce [] messages → place_for (taken_in none_sent messages) to name ≡ expected messages to name
