-- What is kept of the rows of a certificate's text is kept of the rows that the text encodes.
use Rattle.std.proofs.Common.{ℕ, ◌≡◌, ◌+◌, ◌≤◌, ◌∙◌, List, [], ◌∷◌, length, Option, Some, None, Result, Ok, Err, Bool}
use Rattle.std.proofs.Common.{true, false, cond, IfOk, IfErr, MatchResult, MatchBool, option_map, refl, sym, ap}
use Rattle.std.proofs.Common.{subst, inl, inr, arith}
use Rattle.std.specs.Prelude.{⊤}
use Rattle.step_trace.specs.declared.rows.Row.{Row}
use Rattle.trace_text.specs.declared.byte_loops.TheConstants.{MAX_TEXT_BYTES}
use Rattle.trace_text.specs.Faults.{Rose}
use Rattle.trace_text.specs.Records.{◌>>=◌, after_records}
use Rattle.front.specs.declared.refusals.ReportError.{ReportError}
use Rattle.front.specs.declared.refusals.ReportError.TheVariants as why
use Rattle.front.specs.ReportReading.{RefusedFor}
use Rattle.front.specs.ReportRefusals.{Gives, is_header, is_memory, next_rows, row_of, rows_at_end, rows_of_records, with_row}
use Rattle.front.specs.ReportTexts.{StandsFor}
use Rattle.certificate_checker.specs.declared.claims.ClaimedRows.{ClaimedRows}
use Rattle.certificate_checker.specs.declared.claims.ClaimedRows.TheVariants.{InOrder}
use Rattle.certificate_checker.specs.Claims.{claimed}
use Rattle.certificate_checker.proofs.ClaimVerdicts.{claimed-count, claimed-push}
use Rattle.text_verdicts.specs.declared.certificate_texts.Certificate.{Certificate}
use Rattle.text_verdicts.specs.CertificateTexts.{IsKeptOf, IsRefusalOf, kept_at_end, kept_of, kept_with, next_claimed}

-- what is kept of rows, None before the header
abbrev of_rows : ℕ → Option (List Row) → Certificate
of_rows last rows = record { last = last; rows = option_map (claimed last) rows }

abbrev of_result : ℕ → Result (Option (List Row)) ReportError → Result Certificate ReportError
of_result last (Ok rows) = Ok (of_rows last rows)
of_result last (Err e) = Err e

-- one more record
next_same : (last : ℕ) (rows : Option (List Row)) (fields : List (List ℕ))
    → next_claimed (of_rows last rows) fields ≡ of_result last (next_rows rows fields)
next_same last None fields = go (is_header fields) where
  go : (b : Bool) → cond b (Ok (InOrder [])) (Err why.BadHeader) >>= (λ kept. Ok (record { last = last; rows = Some kept }))
      ≡ of_result last (cond b (Ok (Some [])) (Err why.BadHeader))
  go true = refl
  go false = refl
next_same last (Some rows) fields = rw (claimed-count last rows) (go (row_of (length rows + 1) fields)) where
  go : (r : Result Row ReportError) → kept_with last (claimed last rows) r >>= (λ kept. Ok (record { last = last; rows = Some kept }))
      ≡ of_result last (with_row rows r)
  go (Ok row) = ap (λ (kept : ClaimedRows). Ok (record { last = last; rows = Some kept })) (sym (claimed-push last rows row))
  go (Err e) = refl

-- and more, one after the other
after_same : (last : ℕ) (rows : Option (List Row)) (rs : List (List (List ℕ)))
    → after_records next_claimed (of_rows last rows) rs ≡ of_result last (after_records next_rows rows rs)
after_same last rows [] = refl
after_same last rows (r ∷ rs) = rw (next_same last rows r) (go (next_rows rows r) (λ more. after_same last more rs)) where
  go : (n : Result (Option (List Row)) ReportError)
      → ((more : Option (List Row)) → after_records next_claimed (of_rows last more) rs ≡ of_result last (after_records next_rows more rs))
      → of_result last n >>= (λ c. after_records next_claimed c rs) ≡ of_result last (n >>= λ more. after_records next_rows more rs)
  go (Ok more) rest = rest more
  go (Err e) rest = refl

-- the records of a text end in what is kept of their rows
ended-ok : (last : ℕ) (rs : List (List (List ℕ))) (c : Certificate)
    → after_records next_claimed (of_rows last None) rs ≡ Ok c → kept_of last (rows_of_records rs) ≡ kept_at_end c.rows
ended-ok last rs c e = go (after_records next_rows None rs) (sym (after_same last None rs) ∙ e) where
  go : (n : Result (Option (List Row)) ReportError) → of_result last n ≡ Ok c → kept_of last (n >>= rows_at_end) ≡ kept_at_end c.rows
  go (Ok None) h = let same : of_rows last None ≡ c = cc h in ap (λ (x : Certificate). kept_at_end x.rows) same
  go (Ok (Some rows)) h = let same : of_rows last (Some rows) ≡ c = cc h in ap (λ (x : Certificate). kept_at_end x.rows) same
  go (Err f) h = cc h

pub ended-gives : (last : ℕ) (rs : List (List (List ℕ))) (c : Certificate) (r : Result ClaimedRows ReportError)
    → after_records next_claimed (of_rows last None) rs ≡ Ok c → MatchResult r
    (λ kept. kept_at_end c.rows ≡ Ok kept) (λ e. kept_at_end c.rows ≡ Err e) → Gives (λ kept. kept) r (kept_of last (rows_of_records rs))
ended-gives last rs c (Ok kept) h k = ended-ok last rs c h ∙ k
ended-gives last rs c (Err e) h k = go (is_memory e) where
  go : (b : Bool) → MatchBool b ⊤ (kept_of last (rows_of_records rs) ≡ Err e)
  go true = tt
  go false = ended-ok last rs c h ∙ k

-- or are refused alike
pub ended-refused : (last : ℕ) (rs : List (List (List ℕ))) (e : ReportError) → MatchBool (is_memory e) ⊤
    (after_records next_claimed (of_rows last None) rs ≡ Err e) → MatchBool (is_memory e) ⊤ (kept_of last (rows_of_records rs) ≡ Err e)
ended-refused last rs e h = go (is_memory e) h where
  same : (n : Result (Option (List Row)) ReportError) → of_result last n ≡ Err e → kept_of last (n >>= rows_at_end) ≡ Err e
  same (Ok rows) k = cc k
  same (Err f) k = let one : f ≡ e = cc k in rw one refl

  go : (b : Bool) → MatchBool b ⊤ (after_records next_claimed (of_rows last None) rs ≡ Err e)
      → MatchBool b ⊤ (kept_of last (rows_of_records rs) ≡ Err e)
  go true k = tt
  go false k = same (after_records next_rows None rs) (sym (after_same last None rs) ∙ k)

-- an answer of what is kept is one of the rows
pub rows_under : (last : ℕ) (r : Result ClaimedRows ReportError) (t : Result (List Row) ReportError) → Gives
    (λ kept. kept) r (kept_of last t) → (under : Result (List Row) ReportError) × Gives (λ rows. rows) under t × (kept_of last under ≡ r)
rows_under last (Ok kept) (Ok rows) h = (Ok rows, refl, h)
rows_under last (Ok kept) (Err e) h = cc h
rows_under last (Err e) t h = (Err e, refused (is_memory e) t h, refl) where
  refused : (b : Bool) (t : Result (List Row) ReportError) → MatchBool b ⊤ (kept_of last t ≡ Err e) → MatchBool b ⊤ (t ≡ Err e)
  refused true t h = tt
  refused false (Ok rows) h = cc h
  refused false (Err f) h = let same : f ≡ e = cc h in rw same refl

-- so what holds of the rows holds of it
pub kept-stands : (last : ℕ) (r : Result ClaimedRows ReportError) (under : Result (List Row) ReportError) (text : List ℕ)
    → kept_of last under ≡ r → IfOk under (StandsFor text) → length text ≤ MAX_TEXT_BYTES → IfOk r (IsKeptOf last text)
kept-stands last r (Err e) text same h short = subst (λ (x : Result ClaimedRows ReportError). IfOk x (IsKeptOf last text)) same tt
kept-stands last r (Ok rows) text same h short = subst (λ (x : Result ClaimedRows ReportError). IfOk x (IsKeptOf last text)) same
    (record { rows = rows; claimed = refl; stands = h; size = short })

pub kept-refused : (last : ℕ) (r : Result ClaimedRows ReportError) (under : Result (List Row) ReportError) (P : ReportError → Type 0)
    → kept_of last under ≡ r → IfErr under P → IfErr r P
kept-refused last r (Ok rows) P same h = subst (λ (x : Result ClaimedRows ReportError). IfErr x P) same tt
kept-refused last r (Err e) P same h = subst (λ (x : Result ClaimedRows ReportError). IfErr x P) same h

-- what is read of no device is refused for no fault of one
never-rose : Rose 0 0 → ⊥
never-rose (inl h) = omega (arith, h)
never-rose (inr h) = omega (arith, h)

unfaulted-for : (text : List ℕ) (e : ReportError) → RefusedFor e 0 0 (Some text) → IsRefusalOf text e
unfaulted-for text why.Read h = absurd (never-rose h)
unfaulted-for text why.Memory h = tt
unfaulted-for text e h = h

pub unfaulted : (text : List ℕ) (r : Result ClaimedRows ReportError)
    → IfErr r (λ e. RefusedFor e 0 0 (Some text)) → IfErr r (IsRefusalOf text)
unfaulted text (Ok kept) h = tt
unfaulted text (Err e) h = unfaulted-for text e h
