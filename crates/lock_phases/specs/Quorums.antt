-- What an owner finds in the lists and acknowledgements that it hears (section 3).
use Rattle.std.specs.Prelude.{ℕ, List, Option, Some, None, Bool, min, nat_le, ◌==◌, filter, fold, count_by}
use Rattle.std.specs.List.{list_any, flat_map}
use Rattle.lock_phases.specs.Messages.{Message, body_of, listed_values, is_ack}

-- whether the list of a message has v; so a list counts once for v, however often it has it
abbrev pub lists : Message → ℕ → Bool
lists m v = list_any (λ x. x == v) (listed_values (body_of m).kind)

-- whether v is in at least so many of the lists that are heard
abbrev pub has_quorum : ℕ → List Message → ℕ → Bool
has_quorum quorum heard v = nat_le quorum (count_by (λ m. lists m v) heard)

-- the lesser of the least value so far and one more
abbrev pub lesser : Option ℕ → ℕ → Option ℕ
lesser None v = Some v
lesser (Some u) v = Some (min u v)

-- the least of some values
abbrev pub least : List ℕ → Option ℕ
least values = fold lesser None values

-- the least value that is in at least so many of the lists that are heard (own)
abbrev pub least_listed : ℕ → List Message → Option ℕ
least_listed quorum heard =
    least (filter (has_quorum quorum heard) (flat_map (λ m. listed_values (body_of m).kind) heard))

-- how many acknowledgements are heard
abbrev pub acks : List Message → ℕ
acks heard = count_by (λ m. is_ack (body_of m).kind) heard
