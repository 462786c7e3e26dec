-- Lines that are told ahead: what they say is found out before they are taken in.
use Rattle.std.specs.Prelude.{ℕ, ◌≡◌, ◌+◌, ◌≤◌, ◌++◌, List, [], ◌∷◌, Some, Result, Ok, Err}
use Rattle.std.specs.Prelude.{drop, length, nat_le, if◌then◌else◌, IsSome}
use Rattle.std.specs.List.{AllZip}
use Rattle.trace_text.specs.Records.{records_of_text}
use Rattle.event_log.specs.declared.reading.Reading.{Reading}
use Rattle.event_log.specs.declared.reading.TheConstants.{MAX_EVENTS}
use Rattle.event_log.specs.declared.records.Rules.{Rules}
use Rattle.event_log.specs.declared.records.Told.{Told}
use Rattle.event_log.specs.declared.refusals.LogError.{LogError}
use Rattle.event_log.specs.declared.refusals.LogError.TheVariants.{TooManyEvents}
use Rattle.event_log.specs.declared.told_lines.ToldLines.{ToldLines}
use Rattle.event_log.specs.LogRecords.{Said, said, said_of}
use Rattle.event_log.specs.Reading.{rules_of, with_event}

-- a record of these fields says this, whatever its number
abbrev pub IsToldBy : Rules → List (List ℕ) → Told → Type 0
IsToldBy rules fields told = (no : ℕ) → said_of rules no fields ≡ Ok (said told)

-- the first records of a text from a place on say this, and the others are those from the end of these lines on
pub record AreTold (rules : Rules) (text : List ℕ) (at : ℕ) (told : ToldLines) : Type 0 where
  pub within : told.end ≤ length text
  pub forward : at + length told.rows.items ≤ told.end
  pub records : List (List (List ℕ))
  pub each : AllZip (IsToldBy rules) records told.rows.items
  pub are : records_of_text (drop at text) ≡ records ++ records_of_text (drop told.end text)

-- these are the rules by which all further records are judged: the kind of the times is settled
pub record AreRulesOf (rules : Rules) (r : Reading) : Type 0 where
  pub columns : r.columns ≡ Some rules.columns
  pub are : rules ≡ rules_of rules.columns r
  pub kind : IsSome rules.kind

-- where events lead; one above the greatest number of events is refused
abbrev pub after_rows : Reading → List Said → Result Reading LogError
after_rows r [] = Ok r
after_rows r (s ∷ rest) = if nat_le MAX_EVENTS r.count then Err TooManyEvents else after_rows (with_event r s) rest
