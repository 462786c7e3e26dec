-- The names of messages in a field.
use Rattle.std.proofs.Common.{◌≡◌, ℕ, ◌<◌, ◌==◌, arith, List, [], ◌∷◌, length, true, refl}
use Rattle.std.specs.List.{list_all, slice_split}
use Rattle.trace_text.specs.Names.{is_message_name}
use Rattle.event_log.specs.Names.{are_message_names}

-- an empty field has none
pub no-names : (field : List ℕ) → length field ≡ 0 → true ≡ are_message_names field
unfolding are_message_names
no-names [] e = refl
no-names (b ∷ bs) e = absurd (omega (arith, e))

-- another is split at its spaces
pub are-split : (field : List ℕ) → 0 < length field
    → are_message_names field ≡ list_all is_message_name (slice_split (λ byte. byte == 32) field)
unfolding are_message_names
are-split [] lt = absurd (omega (arith, lt))
are-split (b ∷ bs) lt = refl
