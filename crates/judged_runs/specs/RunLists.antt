-- The text of a list of runs: a header, and a record for each run; and its first refusal, record by record (own).
use Rattle.std.specs.Prelude.{ℕ, ◌≡◌, ◌<◌, ◌+◌, List, [], ◌∷◌, ◌++◌, length, Option, Some, None, Result, Ok, Err}
use Rattle.std.specs.Prelude.{Bool, true, false, ◌==◌, ◌&&◌, if◌then◌else◌, nat_le, nat_lt, is_ok, codes}
use Rattle.std.specs.Str.{bytes_eq}
use Rattle.std.proofs.Common.{refl, arith, length-append}
use Rattle.trace_text.specs.declared.byte_loops.TheConstants.{MAX_TEXT_BYTES}
use Rattle.trace_text.specs.declared.record_limits.TheConstants.{MAX_FIELDS}
use Rattle.trace_text.specs.RecordLimits.{RefusesLong}
use Rattle.trace_text.specs.Records.{GivesUnless, after_records, field_of, records_of_text}
use Rattle.trace_text.specs.Records as texts
use Rattle.judged_runs.specs.declared.run_lists.TheConstants.{MAX_RUNS}
use Rattle.judged_runs.specs.declared.refusals.RunListError.{RunListError}
use Rattle.judged_runs.specs.declared.refusals.RunListError.TheVariants.{TooLarge, BadHeader, TooMany}
use Rattle.judged_runs.specs.declared.refusals.RunListError.TheVariants.{BadFields, Memory, NoRuns}
use Rattle.judged_runs.specs.Listed.{Listed, SoFar}

-- whether the record has the names of the columns: trace, decisions, correct, start
abbrev pub is_header : List (List ℕ) → Bool
is_header fields = (length fields == 4) &&
    (bytes_eq (field_of fields 0) (codes "trace") && (bytes_eq (field_of fields 1) (codes "decisions")
    && (bytes_eq (field_of fields 2) (codes "correct") && bytes_eq (field_of fields 3) (codes "start"))))

-- the run that the fields of a record say
abbrev pub listed : List (List ℕ) → Listed
listed fields = record {
  trace = field_of fields 0;
  decisions = field_of fields 1;
  correct = field_of fields 2;
  start = field_of fields 3;
}

-- the run that a record of this number says, if it has four fields
abbrev pub run_of : ℕ → List (List ℕ) → Result Listed RunListError
run_of at fields =
    if nat_lt MAX_RUNS at then Err TooMany
    else (if length fields == 4 then Ok (listed fields) else Err (BadFields at))

-- the runs with one more
abbrev pub with_run : List Listed → Result Listed RunListError → Result (Option (List Listed)) RunListError
with_run runs (Ok run) = Ok (Some (runs ++ run ∷ []))
with_run runs (Err e) = Err e

-- what one more record makes of the runs; before the header there are none
abbrev pub runs_after : Option (List Listed) → List (List ℕ) → Result (Option (List Listed)) RunListError
runs_after None fields = if is_header fields then Ok (Some []) else Err BadHeader
runs_after (Some runs) fields = with_run runs (run_of (length runs + 1) fields)

abbrev pub next_runs : SoFar → List (List ℕ) → Result SoFar RunListError
next_runs s fields = texts.◌>>=◌ (runs_after s.runs fields) (λ more. Ok (record { runs = more }))

-- these runs, if there are any
abbrev pub some_runs : List Listed → Result (List Listed) RunListError
some_runs runs = if length runs == 0 then Err NoRuns else Ok runs

-- there has to be a header, and a run after it
abbrev pub at_end : Option (List Listed) → Result (List Listed) RunListError
at_end None = Err BadHeader
at_end (Some runs) = some_runs runs

abbrev pub runs_at_end : SoFar → Result (List Listed) RunListError
runs_at_end s = at_end s.runs

-- the runs of these records, or the first refusal
abbrev pub runs_of_records : List (List (List ℕ)) → Result (List Listed) RunListError
runs_of_records records = texts.◌>>=◌ (after_records next_runs (record { runs = None }) records) runs_at_end

-- the runs of a text, or the first refusal
abbrev pub runs_of_text : List ℕ → Result (List Listed) RunListError
runs_of_text text = if nat_le (length text) MAX_TEXT_BYTES then runs_of_records (records_of_text text) else Err TooLarge

abbrev pub is_memory : RunListError → Bool
is_memory Memory = true
is_memory e = false

-- the answer, seen by view, is what the table gives, or out of memory
abbrev pub Gives : {X Y : Type 0} → (X → Y) → Result X RunListError → Result Y RunListError → Type 0
Gives view result table = GivesUnless is_memory view result table

-- whether a run has to be kept for a record: the header is past, and the record is a run's
abbrev pub keeps_after : Option (List Listed) → List (List ℕ) → Bool
keeps_after None fields = false
keeps_after (Some runs) fields = is_ok (run_of (length runs + 1) fields)

abbrev pub record_keeps : SoFar → List (List ℕ) → Bool
record_keeps s fields = keeps_after s.runs fields

-- a record of too many fields hasn't four
not_four : (front more : List (List ℕ)) → MAX_FIELDS < length front → (length (front ++ more) == 4) ≡ false
not_four front more long =
    let larger : 4 < length (front ++ more) = omega (arith, long, length-append front more) in
    apart (length (front ++ more)) larger where
      apart : (n : ℕ) → 4 < n → (n == 4) ≡ false
      apart n h = grind arith

-- and is refused as soon as it has them
long_after : (runs : Option (List Listed)) (front : List (List ℕ)) → MAX_FIELDS < length front
    → (e : RunListError) × ((more : List (List ℕ)) → runs_after runs (front ++ more) ≡ Err e)
long_after None front long = (BadHeader, λ more. (let other = not_four front more long in rw other refl))
long_after (Some runs) front long = go (nat_lt MAX_RUNS (length runs + 1)) refl where
  go : (b : Bool) → nat_lt MAX_RUNS (length runs + 1) ≡ b
      → (e : RunListError) × ((more : List (List ℕ)) → runs_after (Some runs) (front ++ more) ≡ Err e)
  go true many = (TooMany, λ more. (rw many refl))
  go false few = (BadFields (length runs + 1), λ more. (let other = not_four front more long in rw (few, other) refl))

pub refuses_long : RefusesLong next_runs
refuses_long s front long = let h = long_after s.runs front long in (h.0, λ more. (rw (h.1 more) refl))
