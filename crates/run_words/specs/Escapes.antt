-- Text inside XML and HTML (own).
use Rattle.std.specs.Prelude.{ℕ, ◌-◌, ◌==◌, ◌++◌, ◌&&◌, Bool, List, [], ◌∷◌, codes}
use Rattle.std.specs.Prelude.{length, if◌then◌else◌, nat_le, suc, zero}
use Rattle.run_words.specs.Names.{byte_at}

-- a byte as XML and HTML have it, in text and between quotes
abbrev pub escape_of : ℕ → List ℕ
escape_of b =
    if b == 38 then codes "&amp;"
    else if b == 60 then codes "&lt;"
    else if b == 62 then codes "&gt;"
    else if b == 34 then codes "&quot;"
    else if b == 39 then codes "&#39;"
    else b ∷ []

-- whether U+FFFE or U+FFFF ends at this place, whose UTF-8 is EF BF BE and EF BF BF
unfoldable pub ends_unheld : List ℕ → ℕ → Bool
ends_unheld text i = nat_le 2 i &&
    (byte_at text (i - 2) == 239 && (byte_at text (i - 1) == 191 && nat_le 190 (byte_at text i)))

-- the byte at this place, as XML holds it: in place of both it has U+FFFD, EF BF BD
abbrev pub held_byte : List ℕ → ℕ → ℕ
held_byte text i = if ends_unheld text i then 189 else byte_at text i

-- the first n bytes of a text so
abbrev pub escaped_to : List ℕ → ℕ → List ℕ
escaped_to text zero = []
escaped_to text (suc n) = escaped_to text n ++ escape_of (held_byte text n)

abbrev pub escaped : List ℕ → List ℕ
escaped text = escaped_to text (length text)
