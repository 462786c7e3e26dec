-- A line of fields without quotes is read by csv's reader as these fields.
use Rattle.std.proofs.Common.{◌≡◌, ◌≤◌, ◌<◌, ◌+◌, ℕ, suc, List, [], ◌∷◌, ◌++◌, length, refl, ap, sym, subst, arith, length-append}
use Rattle.std.specs.List.{join_with_byte}
use Rattle.csv.specs.Reading.{default_config, records, records_from}
use Rattle.csv.specs.declared.parser.State.TheVariants as st
use Rattle.trace_text.specs.Records.{record_line}
use Rattle.trace_text.specs.RecordWriting.{ArePlain}
use Rattle.trace_text.proofs.LinesRead.{line-read}
use Rattle.shared_reading.proofs.Splits.{same-fuel}

line-from : (n m : ℕ) (fields : List (List ℕ)) (rest : List ℕ) → 2 ≤ length fields → ArePlain fields → length rest < n → length rest < m
    → records_from default_config (suc n) st.StartRecord (record_line fields ++ rest)
    ≡ fields ∷ records_from default_config m st.StartRecord rest
unfolding records_from
line-from n m fields rest two plain l k =
    rw (line-read fields rest two plain) (ap (λ (rs : List (List (List ℕ))). fields ∷ rs) (same-fuel n m st.StartRecord rest refl l k))

-- the first record of a text that begins with the line of plain fields
pub records-line : (fields : List (List ℕ)) (rest : List ℕ)
    → 2 ≤ length fields → ArePlain fields → records default_config (record_line fields ++ rest) ≡ fields ∷ records default_config rest
records-line fields rest two plain =
    let whole = length-append (record_line fields) rest in
    let line = length-append (join_with_byte 44 fields) (10 ∷ []) in
    let next : length (record_line fields ++ rest) + 1 ≡ suc (length (record_line fields ++ rest)) = omega arith in
    subst (λ n. records_from default_config n st.StartRecord (record_line fields ++ rest) ≡ fields ∷ records default_config rest) (sym next)
    (line-from (length (record_line fields ++ rest)) (length rest + 1) fields rest two plain (omega (arith, whole, line)) (omega arith))
