-- Lists as a command line writes them.
use Rattle.std.specs.Prelude.{ℕ, ◌≡◌, ◌<◌, List, length, map, All}
use Rattle.std.specs.List.{join_with_byte}

-- The text lists these items: their texts, with one comma between each two. There is at least one, and each may be
-- listed.
pub record IsCommaList {A : Type 0} (IsItem : A → Type 0) (text_of : A → List ℕ) (text : List ℕ)
    (items : List A) : Type 0 where
  pub some : 0 < length items
  pub each : All IsItem items
  pub written : text ≡ join_with_byte 44 (map text_of items)
