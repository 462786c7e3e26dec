use Rattle.std.proofs.Common.{◌≢◌, ◌∙◌, ◌<◌, sym, map, length, arith}
use Rattle.run_words.specs.Names.{name_at}
use Rattle.run_words.proofs.NameLists.{below_more, same_names, other_names}
use Rattle.run_words.proofs.names.is_new.Goals as goal

pub returns-then-eq : goal.returns-then-eq
returns-then-eq c =
    let below : c.loop-j.j < c.args.i = c.loop-j-test.true in
    let last : c.args.i < length c.args.names.now = c.requires in
    let inside : c.loop-j.j < length c.args.names.now = omega arith in (
      (λ h. cc),
      (λ h. absurd (h c.loop-j.j below (same_names c.args.names.now c.loop-j.j c.args.i inside last (sym c.if-eq.true ∙ c.eq.ensures)))),
    )

pub loop-j-preserved : goal.loop-j-preserved
loop-j-preserved c =
    let below : c.loop-j.j < c.args.i = c.loop-j-test.true in
    let last : c.args.i < length c.args.names.now = c.requires in
    let inside : c.loop-j.j < length c.args.names.now = omega arith in
    below_more (λ k. name_at (map (λ x. x.now) c.args.names.now) k ≢ name_at (map (λ x. x.now) c.args.names.now) c.args.i)
    c.loop-j.j c.loop-j.invariant
    (other_names c.args.names.now c.loop-j.j c.args.i inside last (sym c.if-eq.false ∙ c.eq.ensures))
