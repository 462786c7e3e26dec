use Rattle.std.proofs.Common.{suc, ◌≡◌, ◌+◌, ◌*◌, ◌∙◌, arith, ap, sym, subst, length}
use Rattle.std.proofs.lemmas.List.{with_items_is}
use Rattle.std.proofs.lemmas.List.FromFn.{length-map-range_with_len}
use Rattle.round_model.specs.RoundStates.{state_after, states_after}
use Rattle.round_model.proofs.Common.{AgreeAll, AreInitialValues, table_of, node_of, nodes_after_round, HaveDecided, HoldOneValue, LocksAreProper}
use Rattle.round_model.proofs.RoundEquations.{states_after-opening, states_after-next}
use Rattle.round_model.proofs.MemberNodes.{HaveDecided-states_after, HoldOneValue-states_after, LocksAreProper-states_after}
use Rattle.round_model.proofs.rounds.run_rounds.Goals as goal

pub loop-passed-init : goal.loop-passed-init
loop-passed-init c = c.in_ok-nodes.ensures.nodes ∙ sym (states_after-opening c.args.config.now (table_of c.args.heard.now))

pub run_round-requires-clause-nodes : goal.run_round-requires-clause-nodes
run_round-requires-clause-nodes c = ap length (c.deref_mut.ensures.value ∙ c.loop-passed.invariant)
    ∙ length-map-range_with_len (state_after c.args.config.now (table_of c.args.heard.now) c.loop-passed.passed) 1 c.args.config.now.n

pub loop-passed-preserved : goal.loop-passed-preserved
loop-passed-preserved c =
    let config = c.args.config.now in
    let table = table_of c.args.heard.now in
    let passed = c.loop-passed.passed in
    let kept : length c.run_round.new.nodes ≡ c.loop-passed.nodes.len = omega arith in
    let e : passed + 1 ≡ suc passed = omega arith in
    with_items_is c.loop-passed.nodes c.run_round.new.nodes kept
    ∙ c.in_ok-run_round.ensures
    ∙ ap (nodes_after_round config table (passed + 1)) (c.deref_mut.ensures.value ∙ c.loop-passed.invariant)
    ∙ ap (λ round. nodes_after_round config table round (states_after config table passed)) e
    ∙ states_after-next config table passed
    ∙ ap (states_after config table) (sym e)

pub returns-clause-agreement : goal.returns-clause-agreement
returns-clause-agreement c = subst AgreeAll (sym c.loop-passed.invariant)
    (c.agreement.ensures.agreement c.args.config.now (table_of c.args.heard.now) c.loop-passed.passed c.in_ok-nodes.ensures.setup)

pub returns-clause-validity : goal.returns-clause-validity
returns-clause-validity c = subst (AreInitialValues c.args.config.now) (sym c.loop-passed.invariant)
    (c.agreement.ensures.validity c.args.config.now (table_of c.args.heard.now) c.loop-passed.passed c.in_ok-nodes.ensures.setup)

pub returns-clause-decided : goal.returns-clause-decided
returns-clause-decided c set first touch late =
    let config = c.args.config.now in
    let table = table_of c.args.heard.now in
    let passed = c.loop-passed.passed in
    let decided = c.decided_by.ensures.decided config set table first passed c.in_ok-nodes.ensures.setup touch (omega arith) in
    subst (λ nodes. HaveDecided set (node_of nodes))
    (sym c.loop-passed.invariant) (HaveDecided-states_after config set table passed touch.within decided)

pub returns-clause-one_lock : goal.returns-clause-one_lock
returns-clause-one_lock c set phase within low is hears =
    let config = c.args.config.now in
    let table = table_of c.args.heard.now in
    let passed = c.loop-passed.passed in
    let last : 4 * phase ≡ passed = omega arith in
    let one = subst (λ n. HoldOneValue set (state_after config table n)) last
    (c.decided_by.ensures.one_lock config set table phase within low hears) in
    subst (λ nodes. HoldOneValue set (node_of nodes))
    (sym c.loop-passed.invariant) (HoldOneValue-states_after config set table passed within one)

pub returns-clause-proper : goal.returns-clause-proper
returns-clause-proper c set phase within low is hears =
    let config = c.args.config.now in
    let table = table_of c.args.heard.now in
    let passed = c.loop-passed.passed in
    let last : 4 * phase ≡ passed = omega arith in
    let proper = subst (λ n. LocksAreProper set (state_after config table n)) last
    (c.decided_by.ensures.proper config set table phase within low hears) in
    subst (λ nodes. LocksAreProper set (node_of nodes))
    (sym c.loop-passed.invariant) (LocksAreProper-states_after config set table passed within proper)
