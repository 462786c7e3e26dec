-- An inbox: the messages that a processor took and may yet hear, by the rounds in which they were sent.
use Rattle.std.specs.Prelude.{ℕ, ◌≡◌, ◌<◌, ◌⊎◌, ◌++◌, List, Option, Bool, Contains, filter, map, nat_le}
use Rattle.std.specs.declared.cmp.Ordering.{Ordering}
use Rattle.std.specs.declared.cmp.Reverse.{Reverse}
use Rattle.std.specs.List.Sorted.{IsPermutation}
use Rattle.std.specs.Ordering.{nat_cmp, ordering_then}
use Rattle.step_buffers.specs.declared.letters.Letter.{Letter}
use Rattle.step_buffers.specs.Letters.{round_of}

-- a message's round and its id
abbrev pub Entry : Type 0
Entry = Reverse (ℕ × ℕ)

-- the order in which the earliest round is the greatest
abbrev pub earlier_first : Entry → Entry → Ordering
earlier_first x y = ordering_then (nat_cmp y.0.0 x.0.0) (nat_cmp y.0.1 x.0.1)

-- what contracts see of an inbox: the ids at hand, the entries for later, and how many more there is room for
pub record Held : Type 0 where
  pub near : List ℕ
  pub later : List Entry
  pub room : ℕ

-- the ids of these
abbrev pub ids_of : List Entry → List ℕ
ids_of entries = map (λ e. e.0.1) entries

-- the ids of messages at hand and of those for later
abbrev pub kept_of : List ℕ → List Entry → List ℕ
kept_of near later = near ++ ids_of later

-- the ids of its messages, in no particular order
abbrev pub kept_ids : Held → List ℕ
kept_ids x = kept_of x.near x.later

-- the same messages, moved about, none of them to those for later
pub record IsMoved (x : Held) (near : List ℕ) (later : List Entry) : Type 0 where
  pub same : IsPermutation (kept_ids x) (kept_of near later)
  pub entries : (e : Entry) → Contains later e → Contains x.later e

-- whether a message is of a round or of a later one
abbrev pub is_ahead : List (Option Letter) → ℕ → ℕ → Bool
is_ahead letters r s = nat_le r (round_of letters s)

-- those of these messages that are
abbrev pub ahead : List (Option Letter) → ℕ → List ℕ → List ℕ
ahead letters r ids = filter (λ s. is_ahead letters r s) ids

-- an entry was among these, or has the round of its message, which is later than this one
abbrev pub IsEntered : List Entry → List (Option Letter) → ℕ → Entry → Type 0
IsEntered later letters r e = Contains later e ⊎ ((r < e.0.0) × (e.0.0 ≡ round_of letters e.0.1))
