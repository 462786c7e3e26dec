-- Words of a command line that are no flags, and lines of them in which nothing is refused.
use Rattle.std.proofs.Common.{◌≡◌, ◌∙◌, ap, ap₂, refl, subst, ℕ, Bool, true, false, ◌==◌, List, [], ◌∷◌, Some, None}
use Rattle.std.specs.Prelude.{◌&&◌, if◌then◌else◌, fold, find, option_and_then, unwrap_or}
use Rattle.std.specs.Str.{bytes_eq}
use Rattle.clap.specs.Faults.{level_fault, settle_fault, defaults_fault, check_fault, step_fault, turn_fault, walk_fault}
use Rattle.clap.specs.Lexer.{long_of, long_of_rest, short_of, short_of_rest, strip_byte}
use Rattle.clap.specs.Kinds.{Kinds, or_else}
use Rattle.clap.specs.Simple.{Shape, built, names_of}
use Rattle.clap.specs.Walk.{Held, Text, Waiting, Walk, after_step, finished, nothing_held, plain_word, settled, subcommand_met, walk, walk_from, walked, word_met}
use Rattle.clap.specs.Words.{Rule, fault_of, subcommand_of}
use Rattle.command_line.specs.Arguments.{is_flag}
use Rattle.command_line.specs.declared.jobs.Job.{Job}
use Rattle.command_line.specs.declared.line_errors.LineError.{LineError}
use Rattle.command_line.specs.declared.line_errors.LineError.TheVariants as unread
use Rattle.command_line.specs.Answers.{Given, answers}
use Rattle.command_line.specs.Commands.{program}
use Rattle.command_line.specs.Jobs.{IsGivenIn}

-- a word that is no flag is neither `--` nor a long nor a short flag
not_dashes : (word : Text) → is_flag word ≡ false → bytes_eq word (45 ∷ 45 ∷ []) ≡ false
not_dashes [] e = refl
not_dashes (b ∷ []) e = go (b == 45)
  where
    go : (t : Bool) → t && false ≡ false
    go true = refl
    go false = refl
not_dashes (b ∷ c ∷ rest) e = rw e refl

not_long : (word : Text) → is_flag word ≡ false → long_of word ≡ None
not_long [] e = refl
not_long (b ∷ []) e = go (b == 45)
  where
    go : (t : Bool) → option_and_then long_of_rest (option_and_then (strip_byte 45) (if t then Some [] else None)) ≡ None
    go true = refl
    go false = refl
not_long (b ∷ c ∷ rest) e = rw e refl

not_short : (word : Text) → is_flag word ≡ false → short_of word ≡ None
not_short [] e = refl
not_short (b ∷ []) e = go (b == 45)
  where
    go : (t : Bool) → option_and_then short_of_rest (if t then Some [] else None) ≡ None
    go true = refl
    go false = refl
not_short (b ∷ c ∷ rest) e = rw e refl

-- such a word is no flag in a command with no subcommand
plain_step : (c : List Rule) (waiting : Waiting) (position : ℕ) (word : Text) (h : Held) → is_flag word ≡ false
    → subcommand_met [] waiting word ≡ None → word_met c [] false waiting position word h ≡ plain_word c waiting word h
plain_step c waiting position word h e none = rw (none, not_dashes word e, not_long word e, not_short word e) refl

-- the walk after one more such word
abbrev pub after_plain : List Rule → Walk → Text → Walk
after_plain c w word = after_step c word w (plain_word c w.waiting word w.held).0 (plain_word c w.waiting word w.held).1

walked_plain : (c : List Rule) (w : Walk) (word : Text) → is_flag word ≡ false → subcommand_met [] w.waiting word ≡ None
    → w.stopped ≡ None → w.is_trailing ≡ false → walked c [] w word ≡ after_plain c w word
unfolding walked
walked_plain c w word e none going on = rw (going, on, plain_step c w.waiting w.position word w.held e none) refl

turn_plain : (s : Shape) (w : Walk) (word : Text) → is_flag word ≡ false → subcommand_met [] w.waiting word ≡ None
    → w.stopped ≡ None → w.is_trailing ≡ false → turn_fault s [] w word
    ≡ step_fault s w.position (plain_word s.rules w.waiting word w.held).0 (plain_word s.rules w.waiting word w.held).1
turn_plain s w word e none going on = rw
    (going, on, plain_step s.rules w.waiting w.position word w.held e none, none, not_dashes word e, not_long word e, not_short word e) refl

-- Over these words the walk goes on from one place to another, and refuses none of them.
pub record Passes (s : Shape) (w : Walk) (words : List Text) (end : Walk) : Type 0 where
  pub goes : fold (walked s.rules []) w words ≡ end
  pub faultless : walk_fault s [] w words ≡ []

pub at_end : (s : Shape) (w : Walk) → Passes s w [] w
unfolding walk_fault
at_end s w = record { goes = refl; faultless = refl }

pub after_word : (s : Shape) (w v : Walk) (word : Text) (words : List Text) (end : Walk)
    → walked s.rules [] w word ≡ v → turn_fault s [] w word ≡ [] → Passes s v words end → Passes s w (word ∷ words) end
unfolding walk_fault
after_word s w v word words end goes none p = record {
  goes = ap (λ u. fold (walked s.rules []) u words) goes ∙ p.goes;
  faultless = ap₂ or_else none (ap (λ u. walk_fault s [] u words) goes ∙ p.faultless);
}

-- so over a word that is no flag, if it is a value
pub after_value : (s : Shape) (w : Walk) (word : Text) (words : List Text) (end : Walk) → is_flag word ≡ false
    → subcommand_met [] w.waiting word ≡ None → w.stopped ≡ None → w.is_trailing ≡ false
    → step_fault s w.position (plain_word s.rules w.waiting word w.held).0 (plain_word s.rules w.waiting word w.held).1 ≡ []
    → Passes s (after_plain s.rules w word) words end → Passes s w (word ∷ words) end
after_value s w word words end e none going on fits p = after_word s w (after_plain s.rules w word) word words end
    (walked_plain s.rules w word e none going on) (turn_plain s w word e none going on ∙ fits) p

-- the command of this name, as the parse reads it
abbrev pub shape_of_command : Text → Shape
shape_of_command name = unwrap_or (find (λ s. bytes_eq s.name name) (built program).subs) (built program).top

-- what is refused at the end of a command's words
abbrev pub level_end : Shape → Kinds → Walk → Kinds
level_end s met w =
    or_else met (or_else [] (or_else (settle_fault s.rules s.args_override_self w.held)
    (or_else (defaults_fault (settled s.rules w.held).rows s.rules) (check_fault s (finished s.rules w.held) false))))

-- what is refused in the program's words, if these are a command and its words
abbrev pub line_fault : List Text → Kinds → Kinds
line_fault words below = level_fault (built program).top (names_of (built program)) nothing_held words true below

-- Words with no fault, whose subcommand gives such a job, or is refused so.
pub record IsPlain (words : List Text) (IsJob : Job → Type 0) (IsRefusal : LineError → Type 0) : Type 0 where
  pub faultless : fault_of program words ≡ []
  pub memory : IsRefusal unread.Memory
  pub gives : (given : Given) → IsGivenIn (subcommand_of program words) given → answers IsJob IsRefusal given

-- a command's words that pass, and that leave nothing unsaid
pub plain_line : (name : Text) (words : List Text) (end : Walk) (line : List Text) (IsJob : Job → Type 0) (IsRefusal : LineError → Type 0)
    → Passes (shape_of_command name) (walk_from nothing_held) words end
    → level_end (shape_of_command name) [] end ≡ [] → line_fault (name ∷ words) [] ≡ [] → fault_of program line
    ≡ line_fault (name ∷ words) (level_fault (shape_of_command name) [] nothing_held words false []) → subcommand_of program line ≡ Some
    (name, finished (shape_of_command name).rules (walk (shape_of_command name).rules [] nothing_held words).held) → IsRefusal unread.Memory
    → ((given : Given) → IsGivenIn (Some (name, finished (shape_of_command name).rules end.held)) given → answers IsJob IsRefusal given)
    → IsPlain line IsJob IsRefusal
plain_line name words end line IsJob IsRefusal p ends above faults sub memory gives =
    let s = shape_of_command name in
    record {
      faultless = faults ∙ ap (line_fault (name ∷ words)) (ap₂ (level_end s) p.faultless p.goes ∙ ends) ∙ above;
      memory = memory;
      gives = λ given h.
          gives given (subst (λ named. IsGivenIn named given) (sub ∙ ap (λ (w : Walk). Some (name, finished s.rules w.held)) p.goes) h);
    }
