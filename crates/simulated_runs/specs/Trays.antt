-- Messages that are under way to a processor.
use Rattle.std.specs.Prelude.{ℕ, List, Bool, map, not, nat_le, filter}
use Rattle.simulated_runs.specs.declared.trays.Posted.{Posted}

-- the ids of these messages
abbrev pub ids_of : List Posted → List ℕ
ids_of posted = map (λ m. m.id) posted

-- whether a message is due by tick x
abbrev pub is_due : ℕ → Posted → Bool
is_due x m = nat_le m.due x

-- the ids of those that are
abbrev pub due_ids : ℕ → List Posted → List ℕ
due_ids x posted = ids_of (filter (is_due x) posted)

-- those that aren't
abbrev pub not_due : ℕ → List Posted → List Posted
not_due x posted = filter (λ m. not (is_due x m)) posted
