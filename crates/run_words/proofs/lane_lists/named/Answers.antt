use Rattle.std.proofs.Common.{◌≢◌, ◌<◌, ◌≤◌, ◌∙◌, sym, map, length, arith}
use Rattle.std.proofs.lemmas.List.{length-map}
use Rattle.run_words.specs.Names.{name_at}
use Rattle.run_words.proofs.LaneFacts.{named_at, some_left, unnamed}
use Rattle.run_words.proofs.NameLists.{below_more, other_name, same_name}
use Rattle.run_words.proofs.lane_lists.named.Goals as goal

pub returns-then-eq-clause-named : goal.returns-then-eq-clause-named
returns-then-eq-clause-named c =
    let below : c.loop-i.i < length c.args.names.now = c.loop-i-test.true in
    let inside : c.loop-i.i < length (map (λ x. x.now) c.args.names.now) = rw length-map below in
    named_at (map (λ x. x.now) c.args.names.now) c.args.part.now c.loop-i.i inside
    (same_name c.args.names.now c.loop-i.i c.args.part.now below (sym c.if-eq.true ∙ c.eq.ensures))
    (some_left (length c.args.part.now) c.if-part-eq0.false)

pub loop-i-preserved : goal.loop-i-preserved
loop-i-preserved c =
    below_more (λ k. name_at (map (λ x. x.now) c.args.names.now) k ≢ c.args.part.now) c.loop-i.i c.loop-i.invariant
    (other_name c.args.names.now c.loop-i.i c.args.part.now c.loop-i-test.true (sym c.if-eq.false ∙ c.eq.ensures))

pub returns-clause-refused : goal.returns-clause-refused
returns-clause-refused c =
    let end : length c.args.names.now ≤ c.loop-i.i = c.loop-i-test.false in
    unnamed (map (λ x. x.now) c.args.names.now) c.args.part.now
    (λ k l. let inside : k < length c.args.names.now = rw length-map at l in c.loop-i.invariant k (omega arith))
