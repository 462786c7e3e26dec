-- What is kept of the text of a certificate, record by record, for a trace with this last tick.
use Rattle.std.specs.Prelude.{ℕ, ◌≡◌, ◌<◌, ◌≤◌, ◌+◌, ◌^◌, List, [], ◌++◌, length, Option, Some, None}
use Rattle.std.specs.Prelude.{Result, Ok, Err, Bool, false, ◌||◌, nat_le, if◌then◌else◌, is_ok, ⊤}
use Rattle.std.proofs.Common.{refl}
use Rattle.step_trace.specs.declared.rows.Row.{Row}
use Rattle.trace_text.specs.declared.byte_loops.TheConstants.{MAX_TEXT_BYTES}
use Rattle.trace_text.specs.declared.record_limits.TheConstants.{MAX_FIELDS}
use Rattle.trace_text.specs.RecordLimits.{RefusesLong}
use Rattle.trace_text.specs.Records.{◌>>=◌}
use Rattle.front.specs.declared.refusals.ReportError.{ReportError}
use Rattle.front.specs.declared.refusals.ReportError.TheVariants as why
use Rattle.front.specs.declared.refusals.ReportError.TheVariants.{BadHeader, BadFields}
use Rattle.front.specs.ReportRefusals.{is_header, row_of, rows_of_text}
use Rattle.front.specs.ReportTexts.{StandsFor}
use Rattle.front.specs.LongRefusals.{not_eight}
use Rattle.certificate_checker.specs.declared.claims.ClaimedRows.{ClaimedRows}
use Rattle.certificate_checker.specs.declared.claims.ClaimedRows.TheVariants.{InOrder}
use Rattle.certificate_checker.specs.Claims.{claimed, count_of, with_row}
use Rattle.text_verdicts.specs.declared.certificate_texts.Certificate.{Certificate}

-- what is kept with the row of one more record
abbrev pub kept_with : ℕ → ClaimedRows → Result Row ReportError → Result ClaimedRows ReportError
kept_with last kept (Ok row) = Ok (with_row last kept row)
kept_with last kept (Err e) = Err e

-- what is kept after one more record; before the header there are no rows
abbrev pub kept_after : ℕ → Option ClaimedRows → List (List ℕ) → Result ClaimedRows ReportError
kept_after last None fields = if is_header fields then Ok (InOrder []) else Err BadHeader
kept_after last (Some kept) fields = kept_with last kept (row_of (count_of kept + 1) fields)

abbrev pub next_claimed : Certificate → List (List ℕ) → Result Certificate ReportError
next_claimed c fields = kept_after c.last c.rows fields >>= λ kept. Ok (record { last = c.last; rows = Some kept })

-- there has to be a header
abbrev pub kept_at_end : Option ClaimedRows → Result ClaimedRows ReportError
kept_at_end None = Err BadHeader
kept_at_end (Some kept) = Ok kept

abbrev pub row_keeps : Option ClaimedRows → List (List ℕ) → Bool
row_keeps None fields = false
row_keeps (Some kept) fields = nat_le (2 ^ 64) (count_of kept + 1) || is_ok (row_of (count_of kept + 1) fields)

-- whether something has to be kept for a record: the header is past, and it is a row's (or no number is left for it)
abbrev pub keeps_claimed : Certificate → List (List ℕ) → Bool
keeps_claimed c fields = row_keeps c.rows fields

after-long : (last : ℕ) (rows : Option ClaimedRows) (front : List (List ℕ)) → MAX_FIELDS < length front
    → (e : ReportError) × ((more : List (List ℕ)) → kept_after last rows (front ++ more) ≡ Err e)
after-long last None front long = (BadHeader, λ more. (let other = not_eight front more long in rw other refl))
after-long last (Some kept) front long =
    (BadFields (count_of kept + 1), λ more. (let other = not_eight front more long in rw other refl))

-- a record of too many fields is refused as soon as it has them
pub refuses_long : RefusesLong next_claimed
refuses_long c front long = let h = after-long c.last c.rows front long in (h.0, λ more. (rw (h.1 more) refl))

-- what is kept of the rows of a text, or why it is refused
abbrev pub kept_of : ℕ → Result (List Row) ReportError → Result ClaimedRows ReportError
kept_of last (Ok rows) = Ok (claimed last rows)
kept_of last (Err e) = Err e

-- the first refusal of the certificate's text, or out of memory
abbrev pub IsRefusalOf : List ℕ → ReportError → Type 0
IsRefusalOf text why.Read = ⊥
IsRefusalOf text why.Memory = ⊤
IsRefusalOf text e = rows_of_text text ≡ Err e

-- The text of a certificate encodes rows, of which this is kept.
pub record IsKeptOf (last : ℕ) (text : List ℕ) (kept : ClaimedRows) : Type 0 where
  pub rows : List Row
  pub claimed : kept ≡ claimed last rows
  pub stands : StandsFor text rows
  pub size : length text ≤ MAX_TEXT_BYTES
