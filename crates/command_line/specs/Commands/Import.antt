-- The command `import`: what it takes, and the job that its words give.
use Rattle.std.specs.Prelude.{ℕ, ◌≡◌, ◌||◌, ◌&&◌, Bool, false, true, is_some, List, []}
use Rattle.std.specs.Prelude.{◌∷◌, Option, None, codes, option_map, string_bytes}
use Rattle.clap.specs.Words.{App, Row, Text, first_of}
use Rattle.command_options.specs.declared.ImportForm.{ImportForm}
use Rattle.command_options.specs.declared.ImportForm.TheVariants as forms
use Rattle.command_line.specs.declared.jobs.import.ImportFlags.{ImportFlags}
use Rattle.command_line.specs.declared.jobs.Job.{Job}
use Rattle.command_line.specs.declared.jobs.Job.TheVariants as job
use Rattle.command_line.specs.declared.line_errors.LineError.{LineError}
use Rattle.command_line.specs.declared.line_errors.LineError.TheVariants as unread
use Rattle.command_line.specs.Answers.{Given, ◌>>=◌, answers}
use Rattle.command_line.specs.Arguments.{command_app, flag_in, flag_rule, optional_rule, positional_rule}

-- import LOG --nodes LIST --unit UNIT --tick LENGTH --until TIME --from TIME --idle LENGTH --spread --align --drop-lost
-- --merge --table --ticks
abbrev pub import_app : App
import_app = command_app (codes "import")
    (positional_rule (codes "log") ∷ optional_rule (codes "nodes") ∷ optional_rule (codes "unit")
    ∷ optional_rule (codes "tick") ∷ optional_rule (codes "until") ∷ optional_rule (codes "from")
    ∷ optional_rule (codes "idle") ∷ flag_rule (codes "spread") ∷ flag_rule (codes "align")
    ∷ flag_rule (codes "drop-lost") ∷ flag_rule (codes "merge") ∷ flag_rule (codes "table")
    ∷ flag_rule (codes "ticks") ∷ [])

-- the line `import LOG`, after the program's name
abbrev pub import_line : Text → Text → List Text
import_line name log = name ∷ codes "import" ∷ log ∷ []

-- the texts that are given besides the name of the log
pub record ImportTexts : Type 0 where
  pub nodes : Option (List ℕ)
  pub unit : Option (List ℕ)
  pub tick : Option (List ℕ)
  pub until : Option (List ℕ)
  pub from : Option (List ℕ)
  pub idle : Option (List ℕ)

abbrev pub texts_in : List Row → ImportTexts
texts_in rows = record {
  nodes = first_of (codes "nodes") rows;
  unit = first_of (codes "unit") rows;
  tick = first_of (codes "tick") rows;
  until = first_of (codes "until") rows;
  from = first_of (codes "from") rows;
  idle = first_of (codes "idle") rows;
}

-- no text, and no flag
abbrev pub no_texts : ImportTexts
no_texts = record { nodes = None; unit = None; tick = None; until = None; from = None; idle = None }

abbrev pub no_flags : ImportFlags
no_flags = record { spread = false; align = false; drop_lost = false; merge = false; table = false; ticks = false }

-- what is printed: the table of the lengths of a tick, that of the steps, or the trace
abbrev pub form_by : Bool → Bool → ImportForm
form_by true table = forms.Ticks
form_by false true = forms.Table
form_by false false = forms.Trace

abbrev pub form_of : ImportFlags → ImportForm
form_of flags = form_by flags.ticks flags.table

-- what is printed of the log of this name, with these flags and these texts
abbrev pub IsImport : List ℕ → ImportFlags → ImportTexts → Job → Type 0
IsImport log flags texts (job.Import j) =
    (string_bytes j.file ≡ log) × (option_map string_bytes j.options.nodes ≡ texts.nodes)
    × (option_map string_bytes j.options.unit ≡ texts.unit) × (option_map string_bytes j.options.tick ≡ texts.tick)
    × (option_map string_bytes j.options.until ≡ texts.until) × (option_map string_bytes j.options.from ≡ texts.from)
    × (option_map string_bytes j.options.idle ≡ texts.idle)
    × (j.options.spread ≡ flags.spread) × (j.options.align ≡ flags.align)
    × (j.options.drop_lost ≡ flags.drop_lost) × (j.options.merge ≡ flags.merge)
    × (j.options.form ≡ form_of flags)
IsImport log flags texts _ = ⊥

-- whether something goes with ticks of one length, though the table of lengths is asked for
abbrev pub is_refused : ImportFlags → ImportTexts → Bool
is_refused flags texts = flags.ticks && (is_some texts.tick || (is_some texts.idle || (flags.merge || flags.table)))

-- which is refused in these words
abbrev pub IsOneLengthRefusal : LineError → Type 0
IsOneLengthRefusal (unread.Refused text) =
    string_bytes text ≡ codes "synchrony: import --ticks takes no --tick, --idle, --merge or --table"
IsOneLengthRefusal _ = ⊥

-- the same, if that isn't refused
abbrev pub IsImportUnless : Bool → List ℕ → ImportFlags → ImportTexts → Job → Type 0
IsImportUnless true log flags texts j = ⊥
IsImportUnless false log flags texts j = IsImport log flags texts j

abbrev pub IsImportOf : List ℕ → ImportFlags → ImportTexts → Job → Type 0
IsImportOf log flags texts j = IsImportUnless (is_refused flags texts) log flags texts j

-- why there is no job: it is refused; or out of memory
abbrev pub IsImportFault : Bool → LineError → Type 0
IsImportFault refused unread.Memory = Unit {0}
IsImportFault true e = IsOneLengthRefusal e
IsImportFault false e = ⊥

-- what a log of this name gives, with these flags and these texts
abbrev pub import_gives : List ℕ → ImportFlags → ImportTexts → Given → Type 0
import_gives log flags texts = answers (IsImportOf log flags texts) (IsImportFault (is_refused flags texts))

-- what the rows below `import` give
abbrev pub import_given : List Row → Given → Type 0
import_given rows = do
  log ← first_of (codes "log") rows
  spread ← flag_in rows (codes "spread")
  align ← flag_in rows (codes "align")
  drop_lost ← flag_in rows (codes "drop-lost")
  merge ← flag_in rows (codes "merge")
  table ← flag_in rows (codes "table")
  ticks ← flag_in rows (codes "ticks")
  import_gives log
      (record { spread = spread; align = align; drop_lost = drop_lost; merge = merge; table = table; ticks = ticks })
      (texts_in rows)
