-- Fields that csv's writer writes with no quotes.
use Rattle.std.proofs.Common.{ℕ, ◌≡◌, ◌+◌, ◌<◌, ◌≤◌, ◌^◌, List, [], ◌∷◌, ◌++◌, length, Bool, false, ap, refl, decimal, ◌%◌, arith}
use Rattle.std.specs.List.{join_with_byte}
use Rattle.std.proofs.lemmas.Bool.{ne_eqb}
use Rattle.std.proofs.lemmas.List.{append-nil}
use Rattle.std.proofs.lemmas.Fmt.{decimal_by_steps}
use Rattle.std.proofs.lemmas.List.Folds.{list_any-append}
use Rattle.csv.specs.declared.writer.WriterBuilder.{WriterBuilder}
use Rattle.csv.specs.Writing.{default_writer, needs_byte, field_text, fields_text, is_blank, row_text}
use Rattle.trace_text.specs.Records.{record_line}
use Rattle.trace_text.specs.RecordWriting.{our_writer, IsPlain, ArePlain}

plain_digit : (d : ℕ) → d < 10 → needs_byte our_writer (48 + d) ≡ false
plain_digit d l = rw (
  ne_eqb (48 + d) 44 (λ e. omega arith),
  ne_eqb (48 + d) 34 (λ e. omega arith),
  ne_eqb (48 + d) 13 (λ e. omega arith),
  ne_eqb (48 + d) 10 (λ e. omega arith),
) refl

digit-modulo : (n : ℕ) → n % 10 < 10
digit-modulo n = omega arith

-- the text of a number is plain
pub IsPlain-decimal : (n : ℕ) → n < 2 ^ 64 → IsPlain (decimal n)
IsPlain-decimal n h = decimal_by_steps (λ k ds. IsPlain ds)
    (λ k l. rw (plain_digit k l) refl)
    (λ k ds l p. rw (list_any-append (needs_byte our_writer) ds ((48 + k % 10) ∷ []), p, plain_digit (k % 10) (digit-modulo k)) refl) n h

-- one more field
pub push_plain : (fields : List (List ℕ)) (field : List ℕ) → ArePlain fields → IsPlain field → ArePlain (fields ++ field ∷ [])
push_plain [] field plain one = (one, tt)
push_plain (x ∷ rest) field plain one = (plain.0, push_plain rest field plain.1 one)

-- the default writer, which asks for records of one length or not
abbrev pub writer_of : Bool → WriterBuilder
writer_of flexible = record default_writer { flexible = flexible }

plain_text : (flexible : Bool) (field : List ℕ) → IsPlain field → field_text (writer_of flexible) field ≡ field
plain_text flexible field plain = rw plain refl

plain_rest : (flexible : Bool) (field : List ℕ) (rest : List (List ℕ))
    → ArePlain rest → field ++ fields_text (writer_of flexible) rest ≡ join_with_byte 44 (field ∷ rest)
unfolding fields_text
plain_rest flexible field [] plain = append-nil field
plain_rest flexible field (next ∷ rest) plain = rw (plain_text flexible next plain.0)
    (ap (λ (t : List ℕ). field ++ (44 ∷ t)) (plain_rest flexible next rest plain.1))

-- a record of plain fields, more than one, is written as its fields with commas
pub row_text-plain : (flexible : Bool) (fields : List (List ℕ))
    → 2 ≤ length fields → ArePlain fields → row_text (writer_of flexible) fields ≡ record_line fields
unfolding is_blank
row_text-plain flexible [] two plain = absurd (omega arith)
row_text-plain flexible (field ∷ []) two plain = absurd (omega arith)
row_text-plain flexible (field ∷ next ∷ rest) two plain =
    ap (λ (t : List ℕ). t ++ (10 ∷ [])) (rw (plain_text flexible field plain.0) (plain_rest flexible field (next ∷ rest) plain.1))
