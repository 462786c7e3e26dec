-- The kept ids of a Receive.
use Rattle.std.specs.Prelude.{ℕ, ◌<◌, List, [], length}
use Rattle.step_trace.specs.declared.message_ids.Ids.{Ids}
use Rattle.step_trace.specs.declared.message_ids.Ids.TheVariants.{Nothing, One, Two, Several}

-- all of them, in their order
abbrev pub ids_in : Ids → List ℕ
ids_in Nothing = []
ids_in (One one) = one
ids_in (Two two) = two.value
ids_in (Several items) = items.value.items

-- a list takes memory only for more than one id
abbrev pub BoxesOnlyMore : Ids → Type 0
BoxesOnlyMore (Two two) = 1 < length two.value
BoxesOnlyMore (Several items) = 1 < length items.value.items
BoxesOnlyMore ids = Unit {0}
