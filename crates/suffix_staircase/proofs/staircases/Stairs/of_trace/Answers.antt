use Rattle.std.proofs.Common.{ℕ, ◌+◌, [], length, sym, subst}
use Rattle.suffix_staircase.specs.Analysis.{AreLevels, KnowsTicksFrom}
use Rattle.suffix_staircase.proofs.LevelBounds.{AreLevelsFrom-after_all}
use Rattle.suffix_staircase.proofs.staircases.Stairs.of_trace.Goals as goal

pub all_back-requires-clause-within : goal.all_back-requires-clause-within
all_back-requires-clause-within c = rw c.in_ok-pass.ensures.steps.members c.requires

pub all_back-requires-clause-known : goal.all_back-requires-clause-known
all_back-requires-clause-known c =
    let t = c.args.trace.now in
    let pass = c.in_ok-pass.pass in
    let known : KnowsTicksFrom c.args.set t (length t.steps) (t.last + 1) pass [] = record {
      steps = c.in_ok-pass.ensures.steps;
      gaps = c.in_ok-pass.ensures.gaps;
      each = AreLevelsFrom-after_all c.args.set t;
      falling = tt;
    } in
    rw c.new-builder.ensures
    (subst (λ (s : ℕ). KnowsTicksFrom s t (length t.steps) (t.last + 1) pass []) (sym c.in_ok-pass.ensures.steps.members) known)

pub returns : goal.returns
returns c = rw c.build.ensures (subst (λ (s : ℕ). AreLevels s c.args.trace.now c.all_back.new.builder)
    c.in_ok-pass.ensures.steps.members c.in_ok-all_back.ensures.levels)
