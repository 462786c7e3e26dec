-- The keys of a set of names.
use Rattle.std.specs.Prelude.{ℕ, List, take}
use Rattle.event_log.specs.declared.name_keys.NameKey.{NameKey}
use Rattle.event_log.specs.declared.name_keys.NameKey.TheVariants.{Short, Long, Lent}

-- the name that a key keeps or borrows
abbrev pub name_of : NameKey → List ℕ
name_of (Short len bytes) = take len bytes
name_of (Long bytes) = bytes.items
name_of (Lent bytes) = bytes.now
