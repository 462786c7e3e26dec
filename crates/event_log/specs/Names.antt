-- The names of nodes and messages.
use Rattle.std.specs.Prelude.{ℕ, Bool, List, [], ◌∷◌, ◌++◌}
use Rattle.std.specs.Prelude.{map, if◌then◌else◌}
use Rattle.std.specs.List.{list_all}
use Rattle.indexmap.specs.IndexSet.{IndexSet}
use Rattle.event_log.specs.declared.name_keys.NameKey.{NameKey}
use Rattle.event_log.specs.NameKeys.{name_of}
use Rattle.trace_text.specs.Names.{has_name, is_message_name, words_of}

-- names of messages with one space between them, possibly none
unfoldable pub are_message_names : List ℕ → Bool
are_message_names field = list_all is_message_name (words_of field)

-- the names with one more, which goes last unless it is there
unfoldable pub with_name : List (List ℕ) → List ℕ → List (List ℕ)
with_name names name = if has_name names name then names else names ++ name ∷ []

-- the names that a set keeps, in its order
unfoldable pub names_in : {S : Type 0} → IndexSet NameKey S → List (List ℕ)
names_in set = map name_of set.keys
