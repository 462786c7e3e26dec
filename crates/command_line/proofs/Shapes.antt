-- What a command takes, as its arguments are added one by one, and the program, as its commands are.
use Rattle.std.proofs.Common.{◌≡◌, ◌∙◌, ap, ap₂, sym, subst, List, [], ◌∷◌, ◌++◌, append_assoc, refl, Ok, Result}
use Rattle.std.proofs.lemmas.List.{append-nil}
use Rattle.std.specs.Prelude.{◌||◌, fold}
use Rattle.std.specs.declared.alloc.AllocError.{AllocError}
use Rattle.clap.specs.Built.{AddsArg, AddsInTurn, AddsSubcommand}
use Rattle.clap.specs.Words.{App, Rule, Text, app_of, with_rule, with_subcommand}
use Rattle.clap.specs.declared.builder.Arg.{Arg}
use Rattle.clap.specs.declared.builder.Command.{Command as Reader}
use Rattle.command_line.specs.Arguments.{AreArguments, IsArgument, IsCommand, command_app}
use Rattle.command_line.specs.Commands.{AreMade, Command, with_command}

one_argument : (old new : Reader) (a : Arg) (app : App) (rule : Rule)
    → IsCommand app old → IsArgument rule a → AddsArg old a new → IsCommand (with_rule app rule) new
one_argument old new a app rule is argument adds = record {
  app_is = adds.shape argument.local ∙ ap₂ with_rule is.app_is argument.rule_is;
  local = adds.globals ∙ ap₂ ◌||◌ is.local argument.local;
}

pub all_arguments : (name : Text) (had rules : List Rule) (args : List Arg) (old new : Reader) → IsCommand (command_app name had) old
    → AreArguments rules args → AddsInTurn AddsArg old args new → IsCommand (command_app name (had ++ rules)) new
all_arguments name had [] [] old new is are adds =
    subst (λ rules. IsCommand (command_app name rules) new) (sym (append-nil had)) (subst (IsCommand (command_app name had)) adds is)
all_arguments name had (rule ∷ rules) (a ∷ others) old new is are adds =
    subst (λ all. IsCommand (command_app name all) new) (append_assoc had (rule ∷ []) rules) (all_arguments name
    (had ++ rule ∷ []) rules others adds.0 new (one_argument old adds.0 a (command_app name had) rule is are.0 adds.1) are.1 adds.2)
all_arguments name had [] (a ∷ others) old new is are adds = absurd are
all_arguments name had (rule ∷ rules) [] old new is are adds = absurd are

-- The program that has these commands too is what they were added to, one after the other.
abbrev pub Adds : List (Result Reader AllocError) → App → App → Type 0
Adds made before after = (cs : List Command) → AreMade cs made → after ≡ fold with_command before cs

pub adds_none : (before : App) (cs : List Command) → AreMade cs [] → before ≡ fold with_command before cs
adds_none before [] are = refl
adds_none before (c ∷ cs) are = absurd are

pub adds_one : (made : List (Result Reader AllocError)) (below old new : Reader) (before : App) → Adds made before (app_of old)
    → AddsSubcommand old below new → (cs : List Command) → AreMade cs (made ++ Ok below ∷ []) → app_of new ≡ fold with_command before cs
adds_one [] below old new before adds added [] are = absurd are
adds_one [] below old new before adds added (c ∷ []) are =
    added.shape are.0.local ∙ ap₂ with_subcommand (adds [] tt) (ap (λ (a : App). a.top) are.0.app_is)
adds_one [] below old new before adds added (c ∷ d ∷ cs) are = absurd are.1
adds_one (m ∷ made) below old new before adds added [] are = absurd are
adds_one (m ∷ made) below old new before adds added (c ∷ cs) are =
    adds_one made below old new (with_command before c) (λ ds rest. adds (c ∷ ds) (are.0, rest)) added cs are.1
