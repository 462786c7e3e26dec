-- The runs of a list: what each of them is judged for, and the line that is printed for it (docs/FORMATS.md).
use Rattle.std.specs.Prelude.{ℕ, ◌≡◌, ◌≢◌, ◌⊎◌, List, [], ◌∷◌, ◌++◌, Bool, true, false, Option, Some, None}
use Rattle.std.specs.Prelude.{Ok, Err, option_map, ◌==◌, if◌then◌else◌, codes, decimal, string_bytes}
use Rattle.std.specs.Str.{IsUtf8}
use Rattle.step_trace.specs.declared.correct_sets.Correct.{Correct}
use Rattle.step_trace.specs.CorrectSets.{IsCorrectIn}
use Rattle.trace_text.specs.Records.{number_of}
use Rattle.judged_runs.specs.Listed.{Listed}
use Rattle.judged_runs.specs.RunLists.{runs_of_text}
use Rattle.judged_runs.specs.declared.refusals.RunListError.TheVariants as unlisted
use Rattle.command_faults.specs.declared.faults.Fault.{Fault}
use Rattle.command_faults.specs.declared.faults.Fault.TheVariants as fault
use Rattle.command_faults.specs.declared.faults.ListedField.{ListedField}
use Rattle.command_faults.specs.declared.faults.ListedField.TheVariants as field
use Rattle.command_faults.specs.FaultLines.{fault_line}
use Rattle.command_options.specs.declared.Judging.{Judging}

-- the text lists these runs
abbrev pub AreListed : List ℕ → List Listed → Type 0
AreListed text runs = runs_of_text text ≡ Ok runs

-- why it lists none; a failed read, or out of memory, may come instead
abbrev pub IsUnlisted : List ℕ → Fault → Type 0
IsUnlisted text fault.Read = Unit {0}
IsUnlisted text fault.Memory = Unit {0}
IsUnlisted text (fault.Runs why) = (runs_of_text text ≡ Err why) × (why ≢ unlisted.Memory)
IsUnlisted text _ = ⊥

-- the correct processors of a run: those that are asked for, if its field is empty, and else those that it lists
abbrev pub IsListedCorrect : Correct → List ℕ → Correct → Type 0
IsListedCorrect asked [] found = found ≡ asked
IsListedCorrect asked (b ∷ rest) found = IsCorrectIn (b ∷ rest) found

-- the field isn't empty, and lists none: it is no text, or names no processors
abbrev pub IsNoCorrect : List ℕ → Type 0
IsNoCorrect [] = ⊥
IsNoCorrect (b ∷ rest) = (¬ IsUtf8 (b ∷ rest)) ⊎ ((correct : Correct) → ¬ IsCorrectIn (b ∷ rest) correct)

-- the start of a run: the one that is asked for, if its field is empty, and else its number
abbrev pub start_of : Option ℕ → List ℕ → Option (Option ℕ)
start_of asked [] = Some asked
start_of asked (b ∷ rest) = option_map (λ tick. Some tick) (number_of (b ∷ rest))

-- whether a field is empty
abbrev pub is_empty : List ℕ → Bool
is_empty [] = true
is_empty (b ∷ rest) = false

-- This is what the run of a list is judged for, if this is asked of all of them.
pub record IsListedJudging (asked : Judging) (run : Listed) (j : Judging) : Type 0 where
  pub correct : IsListedCorrect asked.correct run.correct j.correct
  pub within : string_bytes j.within ≡ string_bytes asked.within
  pub start : start_of asked.start run.start ≡ Some j.start
  pub valid : j.valid ≡ asked.valid
  pub whole : j.whole ≡ asked.whole
  pub due : j.due ≡ asked.due
  pub factor : j.factor ≡ asked.factor
  pub rows_of : j.rows ≡ asked.rows
  pub replay : j.replay ≡ is_empty run.decisions

-- why a run can't be judged: the first of its fields that is bad; or out of memory
abbrev pub IsListedFault : Judging → Listed → Fault → Type 0
IsListedFault asked run fault.Memory = Unit {0}
IsListedFault asked run (fault.Listed field.Correct) = IsNoCorrect run.correct
IsListedFault asked run (fault.Listed field.Start) =
    ((found : Correct) × IsListedCorrect asked.correct run.correct found)
    × (start_of asked.start run.start ≡ None)
IsListedFault asked run _ = ⊥

-- the field has no path: it is empty, or no text; or out of memory
abbrev pub IsNoPath : ListedField → List ℕ → Fault → Type 0
IsNoPath of bytes fault.Memory = Unit {0}
IsNoPath of bytes (fault.Listed field) = (field ≡ of) × ((bytes ≡ []) ⊎ (¬ IsUtf8 bytes))
IsNoPath of bytes _ = ⊥

-- the number of a run, before what is printed about it
abbrev pub run_lead : ℕ → List ℕ
run_lead run = codes "run " ++ (decimal run ++ codes ": ")

abbrev pub told_run : ℕ → List ℕ → List ℕ
told_run run words = run_lead run ++ words

-- a text of several lines as one, with a semicolon between each two
abbrev pub one_line : List ℕ → List ℕ
one_line [] = []
one_line (b ∷ rest) = if b == 10 then codes "; " ++ one_line rest else b ∷ one_line rest

-- what is printed about a run that wasn't judged, for this fault
abbrev pub unjudged_words : Fault → List ℕ
unjudged_words why = codes "not judged: " ++ (one_line (fault_line why) ++ 10 ∷ [])
