-- Records that are written after a line feed, and read back.
use Rattle.std.proofs.Common.{◌≡◌, ◌∙◌, ◌==◌, ℕ, zero, suc, ◌+◌, ◌<◌, Bool, true, false, cond, All, List, [], ◌∷◌, ◌++◌, length, flat_map, Option, Some, None, refl, ap, arith, length-append}
use Rattle.std.specs.List.{range_with_len}
use Rattle.std.proofs.lemmas.List.{length-map}
use Rattle.std.proofs.lemmas.List.FromFn.{length-range_with_len}
use Rattle.std.proofs.lemmas.List.Elements.{All-cons, All-head, All-nil, All-tail}
use Rattle.csv.specs.Machine.{Read, fields_after, field_after, is_end, next_record, step, ends_at_end}
use Rattle.csv.specs.Reading.{Reached, default_config, records_from, records_next, strip_bom}
use Rattle.csv.specs.Writing.{default_writer, escaped, field_text, fields_text, is_blank, needs_quotes, read_back, row_text}
use Rattle.csv.specs.declared.parser.Action.{Action}
use Rattle.csv.specs.declared.parser.Action.TheVariants as act
use Rattle.csv.specs.declared.parser.State.{State}
use Rattle.csv.specs.declared.parser.State.TheVariants as st
use Rattle.csv.proofs.RoundTrip.{read-write}
use Rattle.trace_text.specs.Records.{records_of_text}
use Rattle.trace_text.specs.RecordWriting.{our_writer}
use Rattle.trace_text.proofs.ReachedRecords.{are-records}
use Rattle.trace_text.proofs.LinesRead.{end-read}
use Rattle.log_windows.specs.Rows.{field_or, with_field}
use Rattle.log_windows.proofs.LinesFirst.{rows-behind-line}

-- a record has a field
abbrev pub HasField : List (List ℕ) → Type 0
HasField fields = 0 < length fields

-- ---- how records are written

-- whether records may differ in their length changes nothing in a record's text
escaped-same : (field : List ℕ) → escaped our_writer field ≡ escaped default_writer field
unfolding escaped
escaped-same [] = refl
escaped-same (b ∷ rest) = ap (λ t. cond (b == 34) (34 ∷ b ∷ t) (b ∷ t)) (escaped-same rest)

field-same : (field : List ℕ) → field_text our_writer field ≡ field_text default_writer field
field-same field = ap (λ t. cond (needs_quotes default_writer field) (34 ∷ (t ++ 34 ∷ [])) field) (escaped-same field)

fields-same : (fields : List (List ℕ)) → fields_text our_writer fields ≡ fields_text default_writer fields
unfolding fields_text
fields-same [] = refl
fields-same (field ∷ fields) = ap (λ t. 44 ∷ (t ++ fields_text our_writer fields)) (field-same field)
    ∙ ap (λ t. 44 ∷ (field_text default_writer field ++ t)) (fields-same fields)

row-same : (fields : List (List ℕ)) → row_text our_writer fields ≡ row_text default_writer fields
unfolding is_blank fields_text
row-same [] = refl
row-same (field ∷ []) = ap (λ t. (t ++ []) ++ (cond (length t == 0) (34 ∷ 34 ∷ []) [] ++ 10 ∷ [])) (field-same field)
row-same (field ∷ next ∷ fields) =
    ap (λ t. (t ++ fields_text our_writer (next ∷ fields)) ++ 10 ∷ []) (field-same field)
    ∙ ap (λ t. (field_text default_writer field ++ t) ++ 10 ∷ []) (fields-same (next ∷ fields))

same-back : (fields : List (List ℕ)) → HasField fields → read_back fields ≡ fields
same-back [] h = absurd (omega (arith, h))
same-back (field ∷ fields) h = refl

row-read : (fields : List (List ℕ)) (tail : List ℕ) → HasField fields
    → next_record default_config st.StartRecord [] [] (row_text our_writer fields ++ tail) ≡ Some (fields, st.StartRecord, tail)
row-read fields tail h =
    ap (λ t. next_record default_config st.StartRecord [] [] (t ++ tail)) (row-same fields) ∙ read-write fields tail
    ∙ ap (λ r. Some (r, st.StartRecord, tail)) (same-back fields h)

rows-reached : (rows : List (List (List ℕ))) → All HasField rows
    → Reached default_config st.StartRecord (flat_map (row_text our_writer) rows) rows st.StartRecord []
unfolding Reached
rows-reached [] h = (refl, refl)
rows-reached (row ∷ rows) h = (
  (row, st.StartRecord, flat_map (row_text our_writer) rows),
  row-read row (flat_map (row_text our_writer) rows) (All-head HasField row rows h),
  refl,
  rows-reached rows (All-tail HasField row rows h),
)

-- records that are written after a line feed are read back
pub rows-read : (rows : List (List (List ℕ))) → All HasField rows → records_of_text (10 ∷ flat_map (row_text our_writer) rows) ≡ rows
rows-read rows h =
    rows-behind-line (flat_map (row_text our_writer) rows)
    ∙ are-records (flat_map (row_text our_writer) rows) rows (st.StartRecord, [], rows-reached rows h, end-read)

-- ---- each record has a field

last-field : (fields : List (List ℕ)) (field : List ℕ) → HasField (fields ++ field ∷ [])
last-field fields field = omega (arith, length-append fields (field ∷ []))

abbrev ReadsField : Option Read → Type 0
ReadsField None = Unit {0}
ReadsField (Some p) = HasField p.0

by-test : (t : Bool) (x y : Option Read) → (t ≡ true → ReadsField x) → ReadsField y → ReadsField (cond t x y)
by-test true x y h k = h refl
by-test false x y h k = k

end-field : (a : Action) (fields : List (List ℕ)) (field : List ℕ) → is_end a ≡ true → HasField (fields_after a fields field)
end-field act.EndRecord fields field e = last-field fields field
end-field act.EndField fields field e = last-field fields field
end-field act.Skip fields field e = cc e
end-field act.Copy fields field e = cc e

next-field : (s : State) (fields : List (List ℕ)) (field xs : List ℕ) → ReadsField (next_record default_config s fields field xs)
unfolding next_record
next-field s fields field [] = by-test (ends_at_end s) _ _ (λ e. last-field fields field) tt
next-field s fields field (c ∷ rest) = by-test (is_end (step default_config s c).1) _ _
    (λ e. end-field (step default_config s c).1 fields field e) (next-field (step default_config s c).0
    (fields_after (step default_config s c).1 fields field) (field_after (step default_config s c).1 c field) rest)

some-fields : (n : ℕ) (s : State) (xs : List ℕ) → All HasField (records_from default_config n s xs)
unfolding records_from
some-fields zero s xs = All-nil HasField
some-fields (suc n) s xs = go (some-fields n) (next_record default_config s [] [] xs) (next-field s [] [] xs) where
  go : ((s : State) (xs : List ℕ) → All HasField (records_from default_config n s xs))
      → (o : Option Read) → ReadsField o → All HasField (records_next (records_from default_config n) o)
  go more None h = All-nil HasField
  go more (Some p) h = All-cons HasField p.0 (records_from default_config n p.1 p.2) h (more p.1 p.2)

pub records-some : (text : List ℕ) → All HasField (records_of_text text)
records-some text = some-fields (length (strip_bom text) + 1) st.StartRecord (strip_bom text)

pub with_field-some : (fields : List (List ℕ)) (at : ℕ) (value : List ℕ) → HasField fields → HasField (with_field fields at value)
with_field-some fields at value h =
    let mapped = length-map (range_with_len 0 (length fields)) (field_or fields at value) in
    let ranged = length-range_with_len 0 (length fields) in
    omega (arith, h, mapped, ranged)
