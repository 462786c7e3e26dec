-- The names of nodes and messages, in logs and in tables of steps.
use Rattle.std.specs.Prelude.{ℕ, Bool, not, ◌&&◌, ◌||◌, ◌==◌, List, [], ◌∷◌, length}
use Rattle.std.specs.Prelude.{nat_lt, Option, Some, None, is_some, if◌then◌else◌}
use Rattle.std.specs.List.{list_any, slice_split}
use Rattle.std.specs.Str.{bytes_eq, is_utf8}

-- a control character: a byte below 32, or 127
abbrev pub is_control : ℕ → Bool
is_control byte = nat_lt byte 32 || (byte == 127)

-- the text that bytes encode, if they are UTF-8
unfoldable pub text_of : List ℕ → Option (List ℕ)
text_of bytes = if is_utf8 bytes then Some bytes else None

-- a name: text that isn't empty, without control characters
unfoldable pub is_name : List ℕ → Bool
is_name name = nat_lt 0 (length name) && is_some (text_of name) && not (list_any is_control name)

-- the name of a message, which has no space
unfoldable pub is_message_name : List ℕ → Bool
is_message_name name = is_name name && not (list_any (λ byte. byte == 32) name)

-- the name of a node, which has no semicolon: a send to several nodes lists them with one between them
unfoldable pub is_node_name : List ℕ → Bool
is_node_name name = is_name name && not (list_any (λ byte. byte == 59) name)

-- the words of a field that have one space between them, possibly none
abbrev pub words_of : List ℕ → List (List ℕ)
words_of [] = []
words_of (b ∷ bs) = slice_split (λ byte. byte == 32) (b ∷ bs)

-- whether a name is among these
abbrev pub has_name : List (List ℕ) → List ℕ → Bool
has_name names name = list_any (bytes_eq name) names
