-- Lines without quotes: their fields, and how they are read.
use Rattle.std.proofs.Common.{ℕ, ◌≡◌, ◌+◌, ◌-◌, ◌<◌, ◌≤◌, ◌∙◌, ◌++◌, ◌∷◌, [], List, length, take, drop, get_or, map, zero, suc, true, false, refl, sym, ap, arith}
use Rattle.std.specs.Borrow.{Bor}
use Rattle.std.specs.List.{flat_map, join_with_byte}
use Rattle.std.proofs.lemmas.List.{append-nil, append_assoc, get_or-drop, length-drop, take_more}
use Rattle.std.proofs.lemmas.Grind.{flat_map-append}
use Rattle.std.proofs.lemmas.List.Folds.{list_any-append}
use Rattle.csv.specs.Reading.{default_config, records, strip_bom}
use Rattle.csv.specs.Records.{field_at}
use Rattle.csv.specs.Writing.{needs_byte}
use Rattle.trace_text.specs.Records.{field_of}
use Rattle.trace_text.specs.RecordWriting.{ArePlain, IsPlain, our_writer}
use Rattle.trace_text.proofs.PlainFields.{push_plain}
use Rattle.shared_reading.proofs.PlainLines.{records-line}
use Rattle.event_log.specs.declared.plain_lines.PlainField.{PlainField}
use Rattle.event_log.specs.PlainLines.{EndsLine, IsPlainField, IsPlainLine}

-- one byte more that needs no quotes
pub plain-longer : (text : List ℕ) (at end : ℕ) → at ≤ end → end < length text → needs_byte our_writer (get_or text end 0) ≡ false
    → IsPlain (take (end - at) (drop at text)) → IsPlain (take (end + 1 - at) (drop at text))
plain-longer text at end order within plain before =
    let rest = length-drop at text in
    let next : end + 1 - at ≡ (end - at) + 1 = omega arith in
    let here : at + (end - at) ≡ end = omega arith in
    let byte : get_or (drop at text) (end - at) 0 ≡ get_or text end 0 = get_or-drop at text (end - at) 0 ∙ ap (λ k. get_or text k 0) here in
    let grown = take_more (drop at text) (end - at) 0 (omega (arith, rest)) in
    rw (
      next,
      grown,
      list_any-append (needs_byte our_writer) (take (end - at) (drop at text)) (get_or (drop at text) (end - at) 0 ∷ []),
      before,
      byte,
      plain,
    ) refl

-- fields with a comma behind each
abbrev pub begun_line : List (List ℕ) → List ℕ
begun_line fields = flat_map (λ field. field ++ 44 ∷ []) fields

-- the last field of a line has no comma behind it
line-ended : (fields : List (List ℕ)) (field : List ℕ) → join_with_byte 44 (fields ++ field ∷ []) ≡ begun_line fields ++ field
line-ended [] field = refl
line-ended (f ∷ []) field = sym (ap (λ (t : List ℕ). t ++ field) (append-nil (f ++ 44 ∷ [])) ∙ append_assoc f (44 ∷ []) field)
line-ended (f ∷ g ∷ gs) field = ap (λ (t : List ℕ). f ++ (44 ∷ t)) (line-ended (g ∷ gs) field)
    ∙ sym (append_assoc f (44 ∷ []) (begun_line (g ∷ gs) ++ field)) ∙ sym (append_assoc (f ++ 44 ∷ []) (begun_line (g ∷ gs)) field)

-- a line that begins with these fields
pub record BeginsLine (text : List ℕ) (at from : ℕ) (fields : List (List ℕ)) : Type 0 where
  pub order : at ≤ from
  pub within : from ≤ length text
  pub plain : ArePlain fields
  pub is : drop at text ≡ begun_line fields ++ drop from text

-- it begins with one more, which isn't the last
pub line-goes_on : (text : List ℕ) (at from : ℕ) (fields : List (List ℕ)) (f : PlainField)
    → BeginsLine text at from fields → IsPlainField text from f → f.is_last ≡ false → BeginsLine text at f.end (fields ++ f.bytes.now ∷ [])
line-goes_on text at from fields f begun found more = record {
  order = let o = begun.order in let s = found.some in omega arith;
  within = found.end;
  plain = push_plain fields f.bytes.now begun.plain found.plain;
  is = begun.is
      ∙ ap (λ (t : List ℕ). begun_line fields ++ t) (rw (more) at found.is)
      ∙ goal;
} where
  rest : List ℕ
  rest = drop f.end text

  more_field : List ℕ
  more_field = f.bytes.now ++ 44 ∷ []

  goal : begun_line fields ++ (f.bytes.now ++ 44 ∷ rest) ≡ begun_line (fields ++ f.bytes.now ∷ []) ++ rest
  goal = rw (flat_map-append (λ field. field ++ 44 ∷ []) fields (f.bytes.now ∷ []))
      (ap (λ (t : List ℕ). begun_line fields ++ t) (sym (append_assoc f.bytes.now (44 ∷ []) rest))
      ∙ ap (λ (t : List ℕ). begun_line fields ++ (t ++ rest)) (sym (append-nil more_field))
      ∙ sym (append_assoc (begun_line fields) (more_field ++ []) rest))

-- or it ends with the last one
pub line-ends : (text : List ℕ) (at from : ℕ) (fields : List (List ℕ)) (f : PlainField)
    → BeginsLine text at from fields → IsPlainField text from f → f.is_last ≡ true → EndsLine text at (fields ++ f.bytes.now ∷ []) f.end
line-ends text at from fields f begun found last = record {
  within = found.end;
  some = let o = begun.order in let s = found.some in omega arith;
  is = begun.is
      ∙ ap (λ (t : List ℕ). begun_line fields ++ t) (rw (last) at found.is)
      ∙ sym (ap (λ (t : List ℕ). (t ++ 10 ∷ []) ++ rest) (line-ended fields f.bytes.now)
      ∙ append_assoc (begun_line fields ++ f.bytes.now) (10 ∷ []) rest
      ∙ append_assoc (begun_line fields) f.bytes.now (10 ∷ rest));
  plain = push_plain fields f.bytes.now begun.plain found.plain;
} where
  rest : List ℕ
  rest = drop f.end text

-- the field at a place is what the slice there has
pub slice-field : (slices : List (Bor (List ℕ))) (place : ℕ) (field : Bor (List ℕ))
    → place < length slices → field ≡ get_or slices place field → field.now ≡ field_of (map (λ s. s.now) slices) place
unfolding field_at
slice-field [] place field l h = absurd (omega arith)
slice-field (s ∷ ss) zero field l h = ap (λ b. b.now) h
slice-field (s ∷ ss) (suc place) field l h = slice-field ss place field (omega arith) h

-- there is none behind them
pub no-field : (slices : List (Bor (List ℕ))) (place : ℕ) → length slices ≤ place → field_of (map (λ s. s.now) slices) place ≡ []
unfolding field_at
no-field [] place l = refl
no-field (s ∷ ss) zero l = absurd (omega arith)
no-field (s ∷ ss) (suc place) l = no-field ss place (omega arith)

-- the line of two fields or more is read as these, unless a byte order mark may be there or behind it
pub line-is_read : (text : List ℕ) (at : ℕ) (fields : List (List ℕ)) (end : ℕ) → EndsLine text at fields end → 2 ≤ length fields
    → strip_bom (drop at text) ≡ drop at text → strip_bom (drop end text) ≡ drop end text → IsPlainLine text at fields end
line-is_read text at fields end line two begin behind = record {
  within = line.within;
  some = line.some;
  records = ap (λ (xs : List ℕ). records default_config xs) (begin ∙ line.is)
      ∙ records-line fields (drop end text) two line.plain
      ∙ ap (λ (xs : List ℕ). fields ∷ records default_config xs) (sym behind);
}
