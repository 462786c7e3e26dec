-- What csv reads from the text of plain records is these records.
use Rattle.std.proofs.Common.{ℕ, ◌≡◌, ◌≤◌, List, [], ◌∷◌, ◌++◌, length, Some, None, false, refl, arith}
use Rattle.csv.specs.Machine.{next_record}
use Rattle.csv.specs.Reading.{Reached, default_config, strip_bom}
use Rattle.csv.specs.declared.parser.State.TheVariants as st
use Rattle.csv.proofs.RoundTrip.{read-write-many}
use Rattle.trace_text.specs.Records.{record_line, records_of_text, text_of_records}
use Rattle.trace_text.specs.RecordWriting.{ArePlain}
use Rattle.trace_text.proofs.PlainFields.{row_text-plain}
use Rattle.trace_text.proofs.ReachedRecords.{are-records}

-- records of plain fields, of more than one field each
abbrev pub AreLines : List (List (List ℕ)) → Type 0
AreLines [] = Unit {0}
AreLines (r ∷ rs) = (2 ≤ length r) × ArePlain r × AreLines rs

pub AreLines-append : (rs ss : List (List (List ℕ))) → AreLines rs → AreLines ss → AreLines (rs ++ ss)
AreLines-append [] ss a b = b
AreLines-append (r ∷ rs) ss a b = (a.0, a.1, AreLines-append rs ss a.2 b)

pub line-read : (fields : List (List ℕ)) (tail : List ℕ) → 2 ≤ length fields → ArePlain fields
    → next_record default_config st.StartRecord [] [] (record_line fields ++ tail) ≡ Some (fields, st.StartRecord, tail)
line-read [] tail two plain = absurd (omega arith)
line-read (x ∷ []) tail two plain = absurd (omega arith)
line-read (x ∷ y ∷ ys) tail two plain = rw (← row_text-plain false (x ∷ y ∷ ys) two plain) (read-write-many x y ys tail)

Reached-lines : (rs : List (List (List ℕ))) → AreLines rs → Reached default_config st.StartRecord (text_of_records rs) rs st.StartRecord []
unfolding Reached
Reached-lines [] lines = (refl, refl)
Reached-lines (r ∷ rs) lines =
    ((r, st.StartRecord, text_of_records rs), line-read r (text_of_records rs) lines.0 lines.1, refl, Reached-lines rs lines.2)

pub end-read : next_record default_config st.StartRecord [] [] [] ≡ None
unfolding next_record
end-read = refl

-- the text of such records, if it begins with no byte order mark, is read as these
pub lines-read : (rs : List (List (List ℕ))) → AreLines rs
    → strip_bom (text_of_records rs) ≡ text_of_records rs → records_of_text (text_of_records rs) ≡ rs
lines-read rs lines no_mark = rw no_mark (are-records (text_of_records rs) rs (st.StartRecord, [], Reached-lines rs lines, end-read))
