-- The held messages of a receive.
use Rattle.std.specs.Prelude.{ℕ, List, [], Option}
use Rattle.timed_events.specs.declared.messages.Held.{Held}
use Rattle.timed_events.specs.declared.messages.Held.TheVariants.{Nothing, One, Several}

-- all of them, in their order
abbrev pub messages_in : Held → List (Option ℕ)
messages_in Nothing = []
messages_in (One one) = one
messages_in (Several items) = items.value.items
