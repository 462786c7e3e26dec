-- What the answer for the records of a text means for the text.
use Rattle.std.proofs.Common.{ℕ, ◌≡◌, ◌+◌, ◌≤◌, ◌==◌, ◌∙◌, inl, inr, List, [], ◌∷◌, length, map, Option, Some, None}
use Rattle.std.proofs.Common.{Result, Ok, Err, Bool, true, false, cond, All, IfOk, IfErr, IfSome, MatchResult}
use Rattle.std.proofs.Common.{MatchBool, refl, sym, ap, subst, arith}
use Rattle.std.specs.Prelude.{⊤, nat_le}
use Rattle.std.proofs.lemmas.Bool.Decides.{nat_tests}
use Rattle.step_trace.specs.declared.rows.Row.{Row}
use Rattle.trace_text.specs.declared.byte_loops.TheConstants.{MAX_TEXT_BYTES}
use Rattle.trace_text.specs.Records.{◌>>=◌, after_records, records_of_text}
use Rattle.front.specs.declared.columns.TheConstants.{COLUMNS}
use Rattle.front.specs.declared.refusals.ReportError.{ReportError}
use Rattle.front.specs.declared.refusals.ReportError.TheVariants as why
use Rattle.front.specs.Columns.{row_of_entries}
use Rattle.front.specs.ReportTexts.{StandsFor, IsRow64}
use Rattle.front.specs.ReportReading.{RefusedFor, IsDeviceRefusal, faults_after_report}
use Rattle.front.specs.ReportRefusals.{is_header, entry_of, row_of, with_row, next_rows, rows_at_end, rows_of_records, rows_of_text, is_memory, Gives}
use Rattle.front.proofs.RowsRead.{row_of_entries-refused, rows_of_records-ok, rows_of_records-records, report_records-injective}

-- a refusal of the records
IsRecordRefusal : ReportError → Type 0
IsRecordRefusal why.TooLarge = ⊥
IsRecordRefusal why.Read = ⊥
IsRecordRefusal why.Memory = ⊥
IsRecordRefusal e = ⊤

row-refusal : (at : ℕ) (entries : List (Option (Option ℕ))) (b : Bool) (e : ReportError)
    → cond b (row_of_entries at entries) (Err (why.BadFields at)) ≡ Err e → IsRecordRefusal e
unfolding IsRecordRefusal
row-refusal at entries true e h = elim (row_of_entries-refused at entries e h) [
  | inl same ↦ subst IsRecordRefusal (sym same) tt
  | inr same ↦ subst IsRecordRefusal (sym same) tt
]
row-refusal at entries false e h = let same : why.BadFields at ≡ e = cc h in subst IsRecordRefusal same tt

next-refusal : (rows : Option (List Row)) (fields : List (List ℕ)) (e : ReportError) → next_rows rows fields ≡ Err e → IsRecordRefusal e
unfolding IsRecordRefusal
next-refusal None fields e h = go (is_header fields) h where
  go : (b : Bool) → cond {A = Result (Option (List Row)) ReportError} b (Ok (Some [])) (Err why.BadHeader) ≡ Err e → IsRecordRefusal e
  go true h = cc h
  go false h = let same : why.BadHeader ≡ e = cc h in subst IsRecordRefusal same tt
next-refusal (Some rows) fields e h = go (row_of (length rows + 1) fields) refl h where
  go : (r : Result Row ReportError) → row_of (length rows + 1) fields ≡ r → with_row rows r ≡ Err e → IsRecordRefusal e
  go (Ok x) k h = cc h
  go (Err f) k h = let same : f ≡ e = cc h in
      subst IsRecordRefusal same (row-refusal (length rows + 1) (map entry_of fields) (length fields == COLUMNS) f k)

after-refusal : (rows : Option (List Row)) (rs : List (List (List ℕ))) (e : ReportError)
    → after_records next_rows rows rs ≡ Err e → IsRecordRefusal e
after-refusal rows [] e h = cc h
after-refusal rows (r ∷ rs) e h = go (next_rows rows r) refl (λ more. after-refusal more rs e) h where
  go : (n : Result (Option (List Row)) ReportError) → next_rows rows r ≡ n → ((more : Option (List Row)) → after_records next_rows more rs
      ≡ Err e → IsRecordRefusal e) → n >>= (λ more. after_records next_rows more rs) ≡ Err e → IsRecordRefusal e
  go (Ok more) k rest h = rest more h
  go (Err f) k rest h = let same : f ≡ e = cc h in subst IsRecordRefusal same (next-refusal rows r f k)

records-refusal : (rs : List (List (List ℕ))) (e : ReportError) → rows_of_records rs ≡ Err e → IsRecordRefusal e
unfolding IsRecordRefusal
records-refusal rs e h = go (after_records next_rows None rs) refl h where
  go : (n : Result (Option (List Row)) ReportError) → after_records next_rows None rs ≡ n → n >>= rows_at_end ≡ Err e → IsRecordRefusal e
  go (Ok None) k h = let same : why.BadHeader ≡ e = cc h in subst IsRecordRefusal same tt
  go (Ok (Some rows)) k h = cc h
  go (Err f) k h = let same : f ≡ e = cc h in subst IsRecordRefusal same (after-refusal None rs f k)

-- rows that were answered are those of the text
pub stands-from : {A : Type 0} (items : A → List Row) (r : Result A ReportError) (known : Option (List ℕ)) (text : List ℕ) → Gives items r
    (rows_of_records (records_of_text text)) → IfSome known (λ xs. text ≡ xs) → IfOk r (λ v. IfSome known (λ t. StandsFor t (items v)))
stands-from items (Err e) known text h k = tt
stands-from items (Ok v) None text h k = tt
stands-from items (Ok v) (Some t) text h k = subst (λ t. StandsFor t (items v)) k (rows_of_records-ok (records_of_text text) (items v) h)

-- for a text that encodes rows they are answered, unless out of memory
pub complete-from : {A : Type 0} (items : A → List Row) (r : Result A ReportError) (known : Option (List ℕ)) (text : List ℕ)
    → Gives items r (rows_of_records (records_of_text text)) → IfSome known (λ xs. text ≡ xs)
    → IfSome known (λ t. (rows : List Row) → All IsRow64 rows → StandsFor t rows → MatchResult r (λ v. items v ≡ rows) IsDeviceRefusal)
complete-from {A = A} items r None text h k = tt
complete-from {A = A} items r (Some t) text h k = λ rows small stands.
    let same : records_of_text text ≡ records_of_text t = ap records_of_text k in
    go r h rows (ap rows_of_records (same ∙ stands) ∙ rows_of_records-records rows small)
  where
    refused : (e : ReportError) → MatchBool (is_memory e) ⊤ (rows_of_records (records_of_text text) ≡ Err e) → (rows : List Row)
        → rows_of_records (records_of_text text) ≡ Ok rows → IsDeviceRefusal e
    refused why.TooLarge h rows k = tt
    refused why.Read h rows k = tt
    refused why.Memory h rows k = tt
    refused why.BadHeader h rows k = cc (h, k)
    refused (why.BadFields n) h rows k = cc (h, k)
    refused (why.BadNumber n) h rows k = cc (h, k)
    refused (why.HalfWitness n) h rows k = cc (h, k)

    go : (r : Result A ReportError) → Gives items r (rows_of_records (records_of_text text)) → (rows : List Row)
        → rows_of_records (records_of_text text) ≡ Ok rows → MatchResult r (λ v. items v ≡ rows) IsDeviceRefusal
    go (Ok v) h rows k = let same : Ok (items v) ≡ Ok rows = sym h ∙ k in cc same
    go (Err e) h rows k = refused e h rows k

-- a text that isn't too large has the rows of its records
small-rows : (text : List ℕ) → length text ≤ MAX_TEXT_BYTES → rows_of_text text ≡ rows_of_records (records_of_text text)
small-rows text l = let small : nat_le (length text) MAX_TEXT_BYTES ≡ true = grind (arith, nat_tests) in rw small refl

-- a refusal is the first of the text, or out of memory
pub refused-from : {A : Type 0} (items : A → List Row) (r : Result A ReportError) (known : Option (List ℕ)) (text : List ℕ) (old new : ℕ)
    → length text ≤ MAX_TEXT_BYTES → Gives items r (rows_of_records (records_of_text text))
    → IfSome known (λ xs. text ≡ xs) → IfErr r (λ e. RefusedFor e old new known)
unfolding IsRecordRefusal
refused-from items (Ok v) known text old new l h k = tt
refused-from items (Err e) known text old new l h k = go e h known k where
  first : (e : ReportError) → rows_of_records (records_of_text text) ≡ Err e → (known : Option (List ℕ)) → IfSome known (λ xs. text ≡ xs)
      → IfSome known (λ t. rows_of_text t ≡ Err e)
  first e h None k = tt
  first e h (Some t) k = subst (λ t. rows_of_text t ≡ Err e) k (small-rows text l ∙ h)

  go : (e : ReportError) → MatchBool (is_memory e) ⊤ (rows_of_records (records_of_text text) ≡ Err e)
      → (known : Option (List ℕ)) → IfSome known (λ xs. text ≡ xs) → RefusedFor e old new known
  go why.TooLarge h known k = absurd (records-refusal (records_of_text text) why.TooLarge h)
  go why.Read h known k = absurd (records-refusal (records_of_text text) why.Read h)
  go why.Memory h known k = tt
  go why.BadHeader h known k = first why.BadHeader h known k
  go (why.BadFields n) h known k = first (why.BadFields n) h known k
  go (why.BadNumber n) h known k = first (why.BadNumber n) h known k
  go (why.HalfWitness n) h known k = first (why.HalfWitness n) h known k

-- an answer for the records counts no fault
pub faultless-from : {A : Type 0} (items : A → List Row) (r : Result A ReportError) (text : List ℕ) (n : ℕ)
    → Gives items r (rows_of_records (records_of_text text)) → faults_after_report r n ≡ n
unfolding IsRecordRefusal
faultless-from items (Ok v) text n h = refl
faultless-from items (Err why.TooLarge) text n h = refl
faultless-from items (Err why.Read) text n h = absurd (records-refusal (records_of_text text) why.Read h)
faultless-from items (Err why.Memory) text n h = refl
faultless-from items (Err why.BadHeader) text n h = refl
faultless-from items (Err (why.BadFields at)) text n h = refl
faultless-from items (Err (why.BadNumber at)) text n h = refl
faultless-from items (Err (why.HalfWitness at)) text n h = refl

-- a text encodes at most one list of rows
pub stands-one : (text : List ℕ) (xs ys : List Row) → All IsRow64 xs → All IsRow64 ys → StandsFor text xs → StandsFor text ys → xs ≡ ys
stands-one text xs ys h k s r = report_records-injective xs ys h k (sym s ∙ r)
