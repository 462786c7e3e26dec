-- The arguments that several commands take, what the words of a command line give for them, and why they are refused.
use Rattle.std.specs.Prelude.{ℕ, ◌≡◌, ◌-◌, ◌^◌, ◌++◌, Bool, false, true, ◌==◌, if◌then◌else◌, List, [], ◌∷◌}
use Rattle.std.specs.Prelude.{Option, Some, None, codes, option_and_then, option_map, string_bytes, ⊤}
use Rattle.std.specs.Str.{bytes_eq}
use Rattle.std.specs.Str.Parse.{digits_value, without_leading_plus}
use Rattle.clap.specs.ValueTests.{is_unsigned_in}
use Rattle.clap.specs.Words.{App, Row, Rule, Text, app_of, first_of, new_app, new_rule, rule_of}
use Rattle.clap.specs.declared.builder.Arg.{Arg}
use Rattle.clap.specs.declared.builder.ArgAction.TheVariants.{Set, SetTrue}
use Rattle.clap.specs.declared.builder.Command.{Command}
use Rattle.clap.specs.declared.builder.Command.TheViews.{out-Command}
use Rattle.clap.specs.declared.builder.value_parser.ValueParser.TheVariants as vp
use Rattle.step_trace.specs.declared.correct_sets.Correct.{Correct}
use Rattle.step_trace.specs.CorrectSets.{IsCorrectIn}
use Rattle.command_line.specs.declared.line_errors.LineError.{LineError}
use Rattle.command_line.specs.declared.line_errors.LineError.TheVariants as unread

-- The argument has this rule, and none for the commands below it.
pub record IsArgument (rule : Rule) (a : Arg) : Type 0 where
  pub rule_is : rule_of a ≡ rule
  pub local : a.global ≡ false

-- The command is this one, and gives no argument on to commands below it.
pub record IsCommand (app : App) (c : Command) : Type 0 where
  pub app_is : app_of c ≡ app
  pub local : (out-Command c).has_globals ≡ false

-- the arguments have these rules, one each
abbrev pub AreArguments : List Rule → List Arg → Type 0
AreArguments [] [] = Unit {0}
AreArguments (rule ∷ rules) (a ∷ others) = IsArgument rule a × AreArguments rules others
AreArguments _ _ = ⊥

-- the command of this name that takes these
abbrev pub command_app : Text → List Rule → App
command_app name rules = record { top = record (new_app name).top { rules = rules }; subs = [] }

-- an argument that is known by its place
abbrev pub positional_rule : Text → Rule
positional_rule name = record (new_rule name) { action = Some Set; value_names = 1; required = true }

-- the same, which may be left out
abbrev pub optional_positional_rule : Text → Rule
optional_positional_rule name = record (new_rule name) { action = Some Set; value_names = 1 }

-- --NAME VALUE, which may be left out
abbrev pub optional_rule : Text → Rule
optional_rule name = record (new_rule name) { long = Some name; action = Some Set; value_names = 1 }

-- --NAME VALUE, which is required
abbrev pub option_rule : Text → Rule
option_rule name = record (optional_rule name) { required = true }

-- the same, for a number within these bounds
abbrev pub number_rule : Text → ℕ → ℕ → Rule
number_rule name least most = record (option_rule name) { parser = Some (vp.Unsigned least most) }

-- the same, which may be left out
abbrev pub optional_number_rule : Text → ℕ → ℕ → Rule
optional_number_rule name least most = record (optional_rule name) { parser = Some (vp.Unsigned least most) }

-- --NAME TICK, which may be left out
abbrev pub tick_rule : Text → Rule
tick_rule name = record (optional_rule name) { parser = Some (vp.Unsigned 0 (2 ^ 64 - 1)) }

-- --NAME, which takes no value
abbrev pub flag_rule : Text → Rule
flag_rule name = record (new_rule name) { long = Some name; action = Some SetTrue }

-- FILE
abbrev pub file_rule : Rule
file_rule = positional_rule (codes "file")

-- --correct LIST
abbrev pub correct_rule : Rule
correct_rule = option_rule (codes "correct")

-- the number that the reader of 64-bit numbers reads in a text, if it is within these bounds
abbrev pub number_of : ℕ → ℕ → Text → Option ℕ
number_of least most text = if is_unsigned_in least most text then Some
    (digits_value 10 (without_leading_plus text)) else None

-- the number of this name in the rows
abbrev pub number_in : List Row → Text → ℕ → ℕ → Option ℕ
number_in rows name least most = option_and_then (number_of least most) (first_of name rows)

-- the number that an option has, or none if it is left out; nothing if its text is no number within these bounds
abbrev pub optional_number_of : ℕ → ℕ → Option Text → Option (Option ℕ)
optional_number_of least most None = Some None
optional_number_of least most (Some text) = option_map (λ number. Some number) (number_of least most text)

abbrev pub optional_number_in : List Row → Text → ℕ → ℕ → Option (Option ℕ)
optional_number_in rows name least most = optional_number_of least most (first_of name rows)

-- the tick that an option has, or none if it is left out; nothing if its text is no tick
abbrev pub tick_of : Option Text → Option (Option ℕ)
tick_of None = Some None
tick_of (Some text) = option_map (λ tick. Some tick) (number_of 0 (2 ^ 64 - 1) text)

abbrev pub tick_in : List Row → Text → Option (Option ℕ)
tick_in rows name = tick_of (first_of name rows)

-- whether a flag was given, as its text says
abbrev pub flag_of : Text → Option Bool
flag_of text = if bytes_eq text (codes "true") then Some true
    else (if bytes_eq text (codes "false") then Some false else None)

abbrev pub flag_in : List Row → Text → Option Bool
flag_in rows name = option_and_then flag_of (first_of name rows)

-- the word begins with a hyphen and goes on
abbrev pub is_flag : Text → Bool
is_flag [] = false
is_flag (b ∷ []) = false
is_flag (b ∷ c ∷ rest) = b == 45

-- the fault is out of memory
abbrev pub IsMemory : LineError → Type 0
IsMemory unread.Memory = ⊤
IsMemory _ = ⊥

-- a refusal of the command line
abbrev pub IsLineFault : LineError → Type 0
IsLineFault (unread.Refused text) = Unit {0}
IsLineFault _ = ⊥

-- the words in which a line is refused that has none of the commands, or lacks a word of its command
abbrev pub unknown_words : List ℕ
unknown_words = codes "synchrony: bad command line"

-- it is refused in these words
abbrev pub IsUnknown : LineError → Type 0
IsUnknown (unread.Refused text) = string_bytes text ≡ unknown_words
IsUnknown _ = ⊥

-- the text names no processors: it is neither `all` nor `none`, and no list
abbrev pub IsNoList : List ℕ → Type 0
IsNoList list = (correct : Correct) → ¬ IsCorrectIn list correct

-- the words in which the list of this option is refused, with one more line of what it takes
abbrev pub list_words : Text → List ℕ
list_words option = codes "synchrony: bad --" ++ (option ++ (10 ∷ (codes "synchrony: --" ++ (option
    ++ codes " takes all, none, or numbers from 1 to 64 with one comma between them"))))

-- it is reported in these words
abbrev pub TellsList : Text → LineError → Type 0
TellsList option (unread.Refused text) = string_bytes text ≡ list_words option
TellsList option _ = ⊥

-- the refusal of a text that is no list, for this option; or out of memory
abbrev pub IsListFaultOf : Text → List ℕ → LineError → Type 0
IsListFaultOf option list (unread.Refused text) = (string_bytes text ≡ list_words option) × IsNoList list
IsListFaultOf option list unread.Memory = Unit {0}

-- the same for --correct
abbrev pub IsListFault : List ℕ → LineError → Type 0
IsListFault = IsListFaultOf (codes "correct")
