-- Records are read as the rows that they are the records of, and as no others.
use Rattle.std.proofs.Common.{ℕ, ◌≡◌, ◌+◌, ◌<◌, ◌^◌, ◌∙◌, ◌==◌, ◌&&◌, ◌⊎◌, inl, inr, List, [], ◌∷◌, ◌++◌, length, map}
use Rattle.std.proofs.Common.{Option, Some, None, Result, Ok, Err, Bool, true, false, cond, All, IfSome, option_map}
use Rattle.std.proofs.Common.{decimal, append_assoc, refl, sym, ap, take, arith}
use Rattle.std.specs.Cmp.Lexicographic.{pointwise}
use Rattle.std.specs.Option.{ok_or}
use Rattle.std.specs.Str.{bytes_eq}
use Rattle.std.proofs.lemmas.Fmt.{decimal_nonempty}
use Rattle.std.proofs.lemmas.List.{append-nil, map_more}
use Rattle.std.proofs.lemmas.List.Elements.{All-head, All-tail}
use Rattle.std.proofs.lemmas.Option.{same_Some}
use Rattle.std.proofs.lemmas.Slice.Eq.{bytes_eq-Decides, slice_eq-Decides}
use Rattle.step_trace.specs.declared.rows.Miss.{Miss}
use Rattle.step_trace.specs.declared.rows.Gap.{Gap}
use Rattle.step_trace.specs.declared.rows.Row.{Row}
use Rattle.front.specs.declared.columns.TheConstants.{COLUMNS}
use Rattle.front.specs.declared.refusals.ReportError.{ReportError}
use Rattle.front.specs.declared.refusals.ReportError.TheVariants.{BadNumber, HalfWitness, BadFields, BadHeader}
use Rattle.trace_text.specs.Records.{◌>>=◌, after_records, field_of, number_of}
use Rattle.front.specs.Columns.{AreBelow, entries_of, entry_text, gap_of, miss_of, report_header, row_of_entries, with_witnesses}
use Rattle.front.specs.ReportTexts.{row_record, report_records, IsRow64}
use Rattle.front.specs.ReportRefusals.{is_header, entry_of, row_of, with_row, next_rows, rows_at_end, rows_of_records}
use Rattle.trace_text.proofs.NumberLists.{field_of-get_or}
use Rattle.trace_text.proofs.Numbers.{number_of-decimal, number_of-some}

entry_of-some : (field : List ℕ) (o : Option ℕ) → entry_of field ≡ Some o → field ≡ entry_text o
entry_of-some [] None e = refl
entry_of-some [] (Some n) e = cc e
entry_of-some (b ∷ bs) o e = go (number_of (b ∷ bs)) refl o e where
  go : (r : Option ℕ) → number_of (b ∷ bs) ≡ r → (o : Option ℕ) → option_map (λ n. Some n) r ≡ Some o → b ∷ bs ≡ entry_text o
  go None k o e = cc e
  go (Some n) k None e = cc e
  go (Some n) k (Some m) e = let same : n ≡ m = cc e in (number_of-some (b ∷ bs) n k).0 ∙ ap decimal same

entry_of-text : (o : Option ℕ) → IfSome o (λ n. n < 2 ^ 64) → entry_of (entry_text o) ≡ Some o
entry_of-text None h = refl
entry_of-text (Some n) h = go (decimal n) refl where
  go : (field : List ℕ) → decimal n ≡ field → entry_of field ≡ Some (Some n)
  go [] e = let some = rw e at (decimal_nonempty n h) in absurd (omega arith)
  go (b ∷ bs) e = let number = rw e at (number_of-decimal n h) in rw number refl

-- fields that were read are the texts of their entries
entries-some : (fields : List (List ℕ)) (entries : List (Option ℕ))
    → map entry_of fields ≡ map (λ e. Some e) entries → fields ≡ map entry_text entries
entries-some [] [] h = refl
entries-some [] (e ∷ es) h = cc h
entries-some (f ∷ fs) [] h = cc h
entries-some (f ∷ fs) (e ∷ es) h =
    let one : entry_of f ≡ Some e = cc h in
    let more : map entry_of fs ≡ map (λ e. Some e) es = cc h in
    rw (entry_of-some f e one, entries-some fs es more) refl

-- one more field
pub entry_more : (fields : List (List ℕ)) (k : ℕ) → k < length fields
    → map entry_of (take (k + 1) fields) ≡ map entry_of (take k fields) ++ entry_of (field_of fields k) ∷ []
entry_more fields k inside =
    rw (field_of-get_or fields k) (map_more entry_of fields k [] inside)

-- and the texts of entries are read as these
entries-texts : (entries : List (Option ℕ)) → AreBelow (2 ^ 64) entries → map entry_of (map entry_text entries) ≡ map (λ e. Some e) entries
entries-texts [] h = refl
entries-texts (e ∷ es) h = rw (entry_of-text e h.0, entries-texts es h.1) refl

-- entries of which a row was made are its entries
row_of_entries-ok : (at : ℕ) (entries : List (Option (Option ℕ))) (r : Row)
    → row_of_entries at entries ≡ Ok r → entries ≡ map (λ e. Some e) (entries_of r)
row_of_entries-ok at (Some (Some gst) ∷ Some (Some delta) ∷ Some
    (Some phi) ∷ Some sent ∷ Some missed ∷ Some proc ∷ Some from ∷ Some to ∷ []) r h = go sent missed proc from to h where
      made : (miss : Option Miss) (gap : Option Gap) (o : Result Row ReportError)
          → o ≡ Ok (record { gst = gst; delta = delta; phi = phi; miss = miss; gap = gap }) → o ≡ Ok r → map (λ e. Some e)
          (entries_of (record { gst = gst; delta = delta; phi = phi; miss = miss; gap = gap })) ≡ map (λ e. Some e) (entries_of r)
      made miss gap o a b = let same : record { gst = gst; delta = delta; phi = phi; miss = miss; gap = gap } ≡ r = cc (a, b) in
          ap (λ (y : Row). map (λ e. Some e) (entries_of y)) same

      go : (s m p x y : Option ℕ) → ok_or (with_witnesses gst delta phi (miss_of s m) (gap_of p x y)) (HalfWitness at) ≡ Ok r
          → map (λ e. Some e) (Some gst ∷ Some delta ∷ Some phi ∷ s ∷ m ∷ p ∷ x ∷ y ∷ []) ≡ map (λ e. Some e) (entries_of r)
      go None None None None None h = made None None _ refl h
      go (Some s) (Some m) None None None h = made (Some (record { sent = s; missed = m })) None _ refl h
      go None None (Some p) (Some x) (Some y) h = made None (Some (record { proc = p; from = x; to = y })) _ refl h
      go (Some s) (Some m) (Some p) (Some x) (Some y) h =
          made (Some (record { sent = s; missed = m })) (Some (record { proc = p; from = x; to = y })) _ refl h
      go _ _ _ _ _ h = cc h
row_of_entries-ok at _ r h = cc h

-- and if none was made a field or a witness is to blame
pub row_of_entries-refused : (at : ℕ) (entries : List (Option (Option ℕ))) (e : ReportError)
    → row_of_entries at entries ≡ Err e → (e ≡ BadNumber at) ⊎ (e ≡ HalfWitness at)
row_of_entries-refused at (Some (Some gst) ∷ Some (Some delta) ∷ Some (Some phi) ∷ Some sent ∷ Some missed
    ∷ Some proc ∷ Some from ∷ Some to ∷ []) e h = go (with_witnesses gst delta phi (miss_of sent missed) (gap_of proc from to)) h
  where
    go : (o : Option Row) → ok_or o (HalfWitness at) ≡ Err e → (e ≡ BadNumber at) ⊎ (e ≡ HalfWitness at)
    go None h = inr (cc h)
    go (Some r) h = cc h
row_of_entries-refused at _ e h = inl (cc h)

row_of_entries-entries : (at : ℕ) (r : Row) → row_of_entries at (map (λ e. Some e) (entries_of r)) ≡ Ok r
row_of_entries-entries at r = go r.gst r.delta r.phi r.miss r.gap where
  go : (gst delta phi : ℕ) (miss : Option Miss) (gap : Option Gap)
      → row_of_entries at (map (λ e. Some e)
      (entries_of (record { gst = gst; delta = delta; phi = phi; miss = miss; gap = gap }))) ≡ Ok
      (record { gst = gst; delta = delta; phi = phi; miss = miss; gap = gap })
  go gst delta phi None None = refl
  go gst delta phi (Some m) None = refl
  go gst delta phi None (Some w) = refl
  go gst delta phi (Some m) (Some w) = refl

-- a record that was read is the record of its row
row_of-ok : (at : ℕ) (fields : List (List ℕ)) (r : Row) → row_of at fields ≡ Ok r → fields ≡ row_record r
row_of-ok at fields r h = go (length fields == COLUMNS) h where
  go : (t : Bool) → cond t (row_of_entries at (map entry_of fields)) (Err (BadFields at)) ≡ Ok r → fields ≡ row_record r
  go true h = entries-some fields (entries_of r) (row_of_entries-ok at (map entry_of fields) r h)
  go false h = cc h

-- the rows that were taken after others are those whose records were read
rows_after-ok : (taken : List Row) (rs : List (List (List ℕ))) (o : Option (List Row)) → after_records next_rows (Some taken) rs ≡ Ok o
    → (new : List Row) × (o ≡ Some (taken ++ new)) × (rs ≡ map row_record new)
rows_after-ok taken [] o h =
    ([], let same : Some taken ≡ o = cc h in sym same ∙ ap (λ (t : List Row). Some t) (sym (append-nil taken)), refl)
rows_after-ok taken (r ∷ rs) o h = go (row_of (length taken + 1) r) refl (λ x. rows_after-ok (taken ++ x ∷ []) rs o) h where
  go : (t : Result Row ReportError) → row_of (length taken + 1) r ≡ t → ((x : Row) → after_records next_rows (Some (taken ++ x ∷ [])) rs
      ≡ Ok o → (new : List Row) × (o ≡ Some ((taken ++ x ∷ []) ++ new)) × (rs ≡ map row_record new)) → with_row taken t
      >>= (λ more. after_records next_rows more rs) ≡ Ok o → (new : List Row) × (o ≡ Some (taken ++ new)) × (r ∷ rs ≡ map row_record new)
  go (Err e) k more h = cc h
  go (Ok x) k more h =
      let m = more x h in
      (x ∷ m.0, m.1 ∙ ap (λ (t : List Row). Some t) (append_assoc taken (x ∷ []) m.0), rw (row_of-ok (length taken + 1) r x k, m.2) refl)

pub header-same : (fields : List (List ℕ)) → is_header fields ≡ true → fields ≡ report_header
header-same fields h = go (length fields == COLUMNS) h where
  go : (t : Bool) → (t && pointwise bytes_eq fields report_header) ≡ true → fields ≡ report_header
  go true h = (slice_eq-Decides bytes_eq-Decides fields report_header (pointwise bytes_eq fields report_header) refl).0 h
  go false h = cc h

-- records that are read as rows are the records of these rows
pub rows_of_records-ok : (rs : List (List (List ℕ))) (rows : List Row) → rows_of_records rs ≡ Ok rows → rs ≡ report_records rows
rows_of_records-ok [] rows h = cc h
rows_of_records-ok (r ∷ rs) rows h = go (is_header r) refl h where
  end : r ≡ report_header → (o : Result (Option (List Row)) ReportError)
      → after_records next_rows (Some []) rs ≡ o → o >>= rows_at_end ≡ Ok rows → r ∷ rs ≡ report_records rows
  end e (Err f) k h = cc h
  end e (Ok None) k h = cc h
  end e (Ok (Some ys)) k h =
      let m = rows_after-ok [] rs (Some ys) k in
      let new : m.0 ≡ rows = sym (same_Some ys m.0 m.1) ∙ cc h in
      rw (e, m.2, new) refl

  go : (t : Bool) → is_header r ≡ t → (cond t (Ok (Some [])) (Err BadHeader) >>= λ more. after_records next_rows more rs) >>= rows_at_end
      ≡ Ok rows → r ∷ rs ≡ report_records rows
  go true t h = end (header-same r t) (after_records next_rows (Some []) rs) refl h
  go false t h = cc h

-- the record of a row is read as the row
row_of-record : (at : ℕ) (r : Row) → IsRow64 r → row_of at (row_record r) ≡ Ok r
row_of-record at r h = rw (entries-texts (entries_of r) h.numbers) (row_of_entries-entries at r)

rows_after-records : (taken rows : List Row) → All IsRow64 rows
    → after_records next_rows (Some taken) (map row_record rows) ≡ Ok (Some (taken ++ rows))
rows_after-records taken [] h = ap (λ (t : List Row). Ok (Some t)) (sym (append-nil taken))
rows_after-records taken (r ∷ rows) h = rw (row_of-record (length taken + 1) r (All-head IsRow64 r rows h)) (rows_after-records
    (taken ++ r ∷ []) rows (All-tail IsRow64 r rows h) ∙ ap (λ (t : List Row). Ok (Some t)) (append_assoc taken (r ∷ []) rows))

-- the records of rows are read as these rows
pub rows_of_records-records : (rows : List Row) → All IsRow64 rows → rows_of_records (report_records rows) ≡ Ok rows
rows_of_records-records rows h = rw (rows_after-records [] rows h) refl

-- records are those of one list of rows
pub report_records-injective : (xs ys : List Row) → All IsRow64 xs → All IsRow64 ys → report_records xs ≡ report_records ys → xs ≡ ys
report_records-injective xs ys h k e =
    let same : Ok xs ≡ Ok ys = sym (rows_of_records-records xs h) ∙ ap rows_of_records e ∙ rows_of_records-records ys k in
    cc same
