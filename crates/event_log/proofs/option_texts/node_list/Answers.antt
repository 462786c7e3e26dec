use Rattle.std.proofs.Common.{◌<◌, ◌==◌, ◌≤◌, ◌∙◌, ◌∷◌, [], refl, sym, arith, rules, length, subst}
use Rattle.std.proofs.lemmas.Iterator.Splits.{YieldsList-from_slice_split}
use Rattle.std.proofs.lemmas.Iterator.Consumers.{YieldsList-turn, YieldsList-end, YieldsList-so_far}
use Rattle.std.proofs.lemmas.List.{map-append}
use Rattle.std.proofs.lemmas.Result.{err_from_is_err_and}
use Rattle.std.proofs.iter.Serving.{serving}
use borrow.Author.Tests.{tests}
use Rattle.event_log.specs.Options.{AreNodes, parts_between_commas}
use Rattle.event_log.proofs.ListedNodes.{AreListed, fault-from, listed-none, listed-next, nodes-refused, too-few}
use Rattle.event_log.proofs.option_texts.node_list.Goals as goal

pub loop-name-init : goal.loop-name-init
loop-name-init c = (grind serving, grind serving, c.new-nodes.ensures, subst AreListed (sym c.new-nodes.ensures) listed-none)

pub loop-name-preserved : goal.loop-name-preserved
loop-name-preserved c = (
  search rules,
  search rules,
  c.in_ok-list_node.ensures.nodes ∙ rw (map-append (λ x. x.now) c.loop-name.yielded (c.in-Some.name ∷ []), c.loop-name.invariant.2) refl,
  subst AreListed (sym c.in_ok-list_node.ensures.nodes)
      (listed-next c.loop-name.nodes c.in-Some.name.now c.loop-name.invariant.3 c.in_ok-list_node.ensures.next),
)

pub returns : goal.returns
returns c =
    let two : 2 ≤ length c.loop-name.nodes = omega arith in
    let start = c.into_iter-name-iterator.ensures in
    let split = c.split-name-items.ensures in
    let road = YieldsList-from_slice_split _ (λ b. b == 44) c.args.text.now (cc) (cc) (cc) (λ x b q k. search (rules, tests)) in
    let end = YieldsList-end road c.loop-name.yielded _ c.loop-name.yielded_by _ _ c.in-None.is c.next.ensures.steps in
    let same = c.loop-name.invariant.2 ∙ end.0 in
    let listed = c.loop-name.invariant.3 in
    record {
      listed = (subst AreNodes same (record { two = two; few = listed.few; each = listed.each; different = listed.different }), same);
      refused = tt;
    }

pub returns-then-len-lt2-clause-refused : goal.returns-then-len-lt2-clause-refused
returns-then-len-lt2-clause-refused c =
    let few : length c.loop-name.nodes < 2 = omega arith in
    let start = c.into_iter-name-iterator.ensures in
    let split = c.split-name-items.ensures in
    let road = YieldsList-from_slice_split _ (λ b. b == 44) c.args.text.now (cc) (cc) (cc) (λ x b q k. search (rules, tests)) in
    let end = YieldsList-end road c.loop-name.yielded _ c.loop-name.yielded_by _ _ c.in-None.is c.next.ensures.steps in
    subst (λ names. ¬ AreNodes names) (c.loop-name.invariant.2 ∙ end.0) (too-few c.loop-name.nodes few)

pub returns-in_err-list_node-clause-refused : goal.returns-in_err-list_node-clause-refused
returns-in_err-list_node-clause-refused c =
    let start = c.into_iter-name-iterator.ensures in
    let split = c.split-name-items.ensures in
    let road = YieldsList-from_slice_split _ (λ b. b == 44) c.args.text.now (cc) (cc) (cc) (λ x b q k. search (rules, tests)) in
    let t = YieldsList-turn road c.loop-name.yielded _ c.loop-name.yielded_by _ _ c.in-Some.name c.in-Some.is c.next.ensures.steps in
    let front = YieldsList-so_far road c.loop-name.yielded _ c.loop-name.yielded_by in
    let p = err_from_is_err_and c.from_residual.result c.from_residual.ensures.1 in
    rw (p.1, p.2) (
    fault-from _
    (nodes-refused (parts_between_commas c.args.text.now) c.loop-name.nodes c.in-Some.name.now
    (length c.loop-name.yielded) (c.loop-name.invariant.2 ∙ front) t.0 t.1)
    c.in_err-list_node.ensures.refused)
