-- Bytes that are text, and bytes that aren't; and the words of a field.
use Rattle.std.proofs.Common.{◌≡◌, ℕ, ◌<◌, ◌==◌, ◌∷◌, List, [], length, arith, Bool, true, false, Some, None, refl, sym}
use Rattle.std.specs.Prelude.{if◌then◌else◌, is_some}
use Rattle.std.specs.List.{slice_split}
use Rattle.std.specs.Str.{IsUtf8, is_utf8}
use Rattle.std.proofs.lemmas.Bool.{true≢false, and_parts}
use Rattle.std.proofs.lemmas.Str.{IsUtf8-from_is_utf8, is_utf8-from_IsUtf8}
use Rattle.trace_text.specs.Names.{is_name, text_of, words_of}

pub text_of-text : (bytes : List ℕ) → IsUtf8 bytes → Some bytes ≡ text_of bytes
unfolding text_of
text_of-text bytes text = rw (is_utf8-from_IsUtf8 bytes text) refl

pub text_of-broken : (bytes : List ℕ) → ¬ (IsUtf8 bytes) → None ≡ text_of bytes
unfolding text_of
text_of-broken bytes broken = go (is_utf8 bytes) refl where
  go : (t : Bool) → is_utf8 bytes ≡ t → None ≡ (if t then Some bytes else None)
  go true e = absurd (broken (IsUtf8-from_is_utf8 bytes e))
  go false e = refl

-- a name is text
pub name-text : (name : List ℕ) → is_name name ≡ true → text_of name ≡ Some name
unfolding is_name text_of
name-text name h = go (is_utf8 name) (and_parts _ _ (and_parts _ _ h).0).1 where
  go : (t : Bool) → is_some (if t then Some name else None) ≡ true → (if t then Some name else None) ≡ Some name
  go true e = refl
  go false e = absurd (true≢false (sym e))

-- an empty field has no words
pub words-none : (field : List ℕ) → length field ≡ 0 → words_of field ≡ []
words-none [] e = refl
words-none (b ∷ bs) e = absurd (omega (arith, e))

-- another is split at its spaces
pub words-split : (field : List ℕ) → 0 < length field → words_of field ≡ slice_split (λ byte. byte == 32) field
words-split [] lt = absurd (omega (arith, lt))
words-split (b ∷ bs) lt = refl
