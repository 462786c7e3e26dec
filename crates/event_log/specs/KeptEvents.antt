-- The events of a log as they are kept until all sends are known.
use Rattle.std.specs.Prelude.{ℕ, ℤ, List, []}

-- what an event does: it sends to the node of a number, or receives the messages that it names
pub data KeptAct : Type 0 where
  Send : ℕ → KeptAct
  Receive : List ℕ → KeptAct

-- an event with numbers in place of the names of nodes
pub record KeptEvent : Type 0 where
  pub time : ℤ
  pub processor : ℕ
  pub act : KeptAct

-- the names of the messages that an event receives
abbrev pub names_of : KeptAct → List ℕ
names_of (Send to) = []
names_of (Receive messages) = messages
