-- The text of decisions: a header, and a record for each; and its first refusal, record by record (own).
use Rattle.std.specs.Prelude.{ℕ, ◌≡◌, ◌<◌, ◌+◌, List, [], ◌∷◌, ◌++◌, length, Option, Some, None, Result, Ok, Err}
use Rattle.std.specs.Prelude.{Bool, true, false, ◌==◌, ◌&&◌, ◌||◌, if◌then◌else◌, nat_le, nat_lt, is_ok, codes}
use Rattle.std.specs.Str.{bytes_eq}
use Rattle.std.proofs.Common.{refl, arith, length-append}
use Rattle.decision_claims.specs.declared.decisions.Decision.{Decision}
use Rattle.trace_text.specs.declared.byte_loops.TheConstants.{MAX_TEXT_BYTES}
use Rattle.trace_text.specs.declared.record_limits.TheConstants.{MAX_FIELDS}
use Rattle.trace_text.specs.RecordLimits.{RefusesLong}
use Rattle.trace_text.specs.Records.{GivesUnless, after_records, field_of, number_of, records_of_text}
use Rattle.trace_text.specs.Records as texts
use Rattle.judged_runs.specs.declared.decision_texts.TheConstants.{MAX_DECISIONS}
use Rattle.judged_runs.specs.declared.refusals.DecisionsError.{DecisionsError}
use Rattle.judged_runs.specs.declared.refusals.DecisionsError.TheVariants.{TooLarge, BadHeader, TooMany, BadFields}
use Rattle.judged_runs.specs.declared.refusals.DecisionsError.TheVariants.{BadNumber, BadProcessor, BadTick, Memory}
use Rattle.judged_runs.specs.DecisionLists.{SoFar}

-- whether the record has the names of the columns: proc, tick, value
abbrev pub is_header : List (List ℕ) → Bool
is_header fields = (length fields == 3) &&
    (bytes_eq (field_of fields 0) (codes "proc") &&
    (bytes_eq (field_of fields 1) (codes "tick") && bytes_eq (field_of fields 2) (codes "value")))

-- the decision of these numbers, if there are such a processor and such a tick
abbrev pub decided : ℕ → ℕ → ℕ → ℕ → ℕ → ℕ → Result Decision DecisionsError
decided n last at proc tick value =
    if proc == 0 || nat_lt n proc then Err (BadProcessor at)
    else (if tick == 0 || nat_lt last tick then Err (BadTick at) else Ok
    (record { proc = proc; tick = tick; value = value }))

-- the same; None denotes a field that is no number
abbrev pub of_numbers : ℕ → ℕ → ℕ → Option ℕ → Option ℕ → Option ℕ → Result Decision DecisionsError
of_numbers n last at (Some proc) (Some tick) (Some value) = decided n last at proc tick value
of_numbers n last at None tick value = Err (BadNumber at)
of_numbers n last at (Some proc) None value = Err (BadNumber at)
of_numbers n last at (Some proc) (Some tick) None = Err (BadNumber at)

-- the decision that a record of this number says
abbrev pub decision_of : ℕ → ℕ → ℕ → List (List ℕ) → Result Decision DecisionsError
decision_of n last at fields =
    if nat_lt MAX_DECISIONS at then Err TooMany
    else (if length fields == 3 then of_numbers n last at (number_of (field_of fields 0))
    (number_of (field_of fields 1)) (number_of (field_of fields 2)) else Err (BadFields at))

-- the decisions with one more
abbrev pub with_decision : List Decision → Result Decision DecisionsError
    → Result (Option (List Decision)) DecisionsError
with_decision decisions (Ok d) = Ok (Some (decisions ++ d ∷ []))
with_decision decisions (Err e) = Err e

-- what one more record makes of the decisions; before the header there are none
abbrev pub decisions_after : ℕ → ℕ → Option (List Decision) → List (List ℕ)
    → Result (Option (List Decision)) DecisionsError
decisions_after n last None fields = if is_header fields then Ok (Some []) else Err BadHeader
decisions_after n last (Some decisions) fields =
    with_decision decisions (decision_of n last (length decisions + 1) fields)

abbrev pub next_decisions : SoFar → List (List ℕ) → Result SoFar DecisionsError
next_decisions s fields = texts.◌>>=◌ (decisions_after s.n s.last s.decisions fields)
    (λ more. Ok (record { n = s.n; last = s.last; decisions = more }))

-- there has to be a header
abbrev pub at_end : Option (List Decision) → Result (List Decision) DecisionsError
at_end None = Err BadHeader
at_end (Some decisions) = Ok decisions

abbrev pub decisions_at_end : SoFar → Result (List Decision) DecisionsError
decisions_at_end s = at_end s.decisions

-- the decisions of these records, or the first refusal
abbrev pub decisions_of_records : ℕ → ℕ → List (List (List ℕ)) → Result (List Decision) DecisionsError
decisions_of_records n last records = texts.◌>>=◌
    (after_records next_decisions (record { n = n; last = last; decisions = None }) records) decisions_at_end

-- the decisions of a text, or the first refusal
abbrev pub decisions_of_text : ℕ → ℕ → List ℕ → Result (List Decision) DecisionsError
decisions_of_text n last text = if nat_le (length text) MAX_TEXT_BYTES then decisions_of_records n last
    (records_of_text text) else Err TooLarge

abbrev pub is_memory : DecisionsError → Bool
is_memory Memory = true
is_memory e = false

-- the answer, seen by view, is what the table gives, or out of memory
abbrev pub Gives : {X Y : Type 0} → (X → Y) → Result X DecisionsError → Result Y DecisionsError → Type 0
Gives view result table = GivesUnless is_memory view result table

-- whether a decision has to be kept for a record: the header is past, and the record is a decision's
abbrev pub keeps_after : ℕ → ℕ → Option (List Decision) → List (List ℕ) → Bool
keeps_after n last None fields = false
keeps_after n last (Some decisions) fields = is_ok (decision_of n last (length decisions + 1) fields)

abbrev pub record_keeps : SoFar → List (List ℕ) → Bool
record_keeps s fields = keeps_after s.n s.last s.decisions fields

-- a record of too many fields hasn't three
not_three : (front more : List (List ℕ)) → MAX_FIELDS < length front → (length (front ++ more) == 3) ≡ false
not_three front more long =
    let larger : 3 < length (front ++ more) = omega (arith, long, length-append front more) in
    apart (length (front ++ more)) larger where
      apart : (n : ℕ) → 3 < n → (n == 3) ≡ false
      apart n h = grind arith

-- and is refused as soon as it has them
long_after : (n last : ℕ) (decisions : Option (List Decision)) (front : List (List ℕ)) → MAX_FIELDS < length front
    → (e : DecisionsError) × ((more : List (List ℕ)) → decisions_after n last decisions (front ++ more) ≡ Err e)
long_after n last None front long = (BadHeader, λ more. (let other = not_three front more long in rw other refl))
long_after n last (Some decisions) front long = go (nat_lt MAX_DECISIONS (length decisions + 1)) refl where
  go : (b : Bool) → nat_lt MAX_DECISIONS (length decisions + 1) ≡ b → (e : DecisionsError)
      × ((more : List (List ℕ)) → decisions_after n last (Some decisions) (front ++ more) ≡ Err e)
  go true many = (TooMany, λ more. (rw many refl))
  go false few =
      (BadFields (length decisions + 1), λ more. (let other = not_three front more long in rw (few, other) refl))

pub refuses_long : RefusesLong next_decisions
refuses_long s front long = let h = long_after s.n s.last s.decisions front long in (h.0, λ more. (rw (h.1 more) refl))
