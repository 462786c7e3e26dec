use Rattle.std.proofs.Common.{◌≡◌, ◌∙◌, ap, sym, subst, List, [], ◌∷◌, ◌++◌, length, append_assoc, arith, rules}
use Rattle.std.specs.Prelude.{fold}
use Rattle.std.specs.Vec.Iter.{into_iter_items}
use Rattle.std.proofs.lemmas.List.{append-nil}
use Rattle.clap.specs.Words.{App, app_of}
use Rattle.command_line.specs.Commands.{AreMade, commands, with_command}
use Rattle.command_line.proofs.Shapes.{Adds, adds_none, adds_one}
use Rattle.command_line.proofs.jobs.with_commands.Goals as goal

-- a list with no length is empty
empty : {A : Type 0} (xs : List A) → length xs ≡ 0 → xs ≡ []
empty [] none = cc
empty (x ∷ xs) none = absurd (omega arith)

pub loop-below-init : goal.loop-below-init
loop-below-init c = record { all = search rules; counted = search rules; adds = adds_none _ }

pub loop-below-preserved : goal.loop-below-preserved
loop-below-preserved c =
    let at = c.loop-below in
    let steps = c.in-Some.ensures.steps in
    record {
      all = append_assoc at.yielded (c.in-Some.below ∷ []) _ ∙ ap (λ rest. at.yielded ++ rest) (sym steps.0) ∙ at.invariant.all;
      counted = let before = at.invariant.counted in let one = ap length steps.0 in let less = steps.1 in omega arith;
      adds = subst (λ made. Adds (at.yielded ++ made ∷ []) (app_of c.args.reader) (app_of c.in_ok-program.program)) (sym c.in_ok-below.was)
          (adds_one at.yielded c.in_ok-below.field-0 at.program c.in_ok-program.program _ at.invariant.adds c.in_ok-program.ensures);
    }

pub returns : goal.returns
returns c = λ made bare.
    let at = c.loop-below in
    let none : into_iter_items at.below-iterator ≡ [] = empty _ (sym at.invariant.counted ∙ c.in-None.ensures.steps.0) in
    let all = sym (append-nil at.yielded) ∙ ap (λ rest. at.yielded ++ rest) (sym none)
    ∙ at.invariant.all ∙ c.into_iter-below-iterator.ensures.into_iter_gives.0 in
    at.invariant.adds commands (subst (AreMade commands) (sym all) made) ∙ ap (λ (a : App). fold with_command a commands) bare
