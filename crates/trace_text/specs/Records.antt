-- Texts of comma-separated records: their fields, and where records lead that are read one after the other.
use Rattle.std.specs.Prelude.{ℕ, ◌≡◌, ◌^◌, List, [], ◌∷◌, ◌++◌, Option, Some, None, Result, Ok, Err, Bool}
use Rattle.std.specs.Prelude.{true, ◌&&◌, nat_lt, if◌then◌else◌, decimal, unwrap_or, MatchBool, ⊤}
use Rattle.std.specs.Str.{bytes_eq}
use Rattle.std.specs.Str.Parse.{digits_value}
use Rattle.std.specs.List.{join_with_byte, flat_map}
use Rattle.csv.specs.Records.{field_at}
use Rattle.csv.specs.Reading.{default_config, records, strip_bom}

-- a record's line: its fields with a comma between them, then a line feed
abbrev pub record_line : List (List ℕ) → List ℕ
record_line fields = join_with_byte 44 fields ++ 10 ∷ []

-- the text of records that need no quotes: their lines, one after the other
abbrev pub text_of_records : List (List (List ℕ)) → List ℕ
text_of_records records = flat_map record_line records

-- the records that csv reads from a text: default reader, no headers, flexible
abbrev pub records_of_text : List ℕ → List (List (List ℕ))
records_of_text text = records default_config (strip_bom text)

-- the field of a record at a place, or nothing
abbrev pub field_of : List (List ℕ) → ℕ → List ℕ
field_of fields i = unwrap_or (field_at fields i) []

-- the number below 2^64 whose text this is, if there is one
unfoldable pub number_of : List ℕ → Option ℕ
number_of field = if nat_lt (digits_value 10 field) (2 ^ 64) && bytes_eq field
    (decimal (digits_value 10 field)) then Some (digits_value 10 field) else None

-- what was reached goes on, and a refusal stays
infixl 10 ◌>>=◌
abbrev pub ◌>>=◌ : {A B E : Type 0} → Result A E → (A → Result B E) → Result B E
(Ok x) >>= f = f x
(Err e) >>= f = Err e

-- where records lead from a state, one after the other; the first that is refused decides
abbrev pub after_records : {S E : Type 0} → (S → List (List ℕ) → Result S E) → S → List (List (List ℕ)) → Result S E
after_records next s [] = Ok s
after_records next s (r ∷ rs) = next s r >>= λ t. after_records next t rs

-- the answer, seen by view, is what the table gives, unless it is a refusal that may always come
abbrev pub GivesUnless : {X Y E : Type 0} → (E → Bool) → (X → Y) → Result X E → Result Y E → Type 0
GivesUnless may view (Ok x) table = table ≡ Ok (view x)
GivesUnless may view (Err e) table = MatchBool (may e) ⊤ (table ≡ Err e)

-- the same of an answer that is paired with the state that was reached
abbrev pub ReachesUnless : {S E : Type 0} → (E → Bool) → Result ⊤ E → S → Result S E → Type 0
ReachesUnless may (Ok x) state table = table ≡ Ok state
ReachesUnless may (Err e) state table = MatchBool (may e) ⊤ (table ≡ Err e)

-- an error that may always come does so only if something had to be kept
abbrev pub WantsOnlyWhere : {A E : Type 0} → (E → Bool) → Result A E → Bool → Type 0
WantsOnlyWhere may (Ok x) kept = ⊤
WantsOnlyWhere may (Err e) kept = may e ≡ true → kept ≡ true
