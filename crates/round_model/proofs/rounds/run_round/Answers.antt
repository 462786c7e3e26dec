use Rattle.std.proofs.Common.{ℕ, ◌≡◌, ◌-◌, ◌+◌, ◌∙◌, List, below_more, arith, ap, sym, subst, set, get_or, map}
use Rattle.std.specs.List.Sorted.{IsStrictlyIncreasing}
use Rattle.std.proofs.lemmas.List.{get_or-set_same, get_or-set_other, get_or_default}
use Rattle.std.proofs.lemmas.List.Elements.{All-same}
use Rattle.round_model.proofs.Common.{IsProc, State, opening, Message, sender_of, messages_heard, table_of, node_of}
use Rattle.lock_phases.specs.NodeFunctions.{next}
use Rattle.round_model.proofs.ProcessorRanges.{rows_of-length, rows_of-at, map-range_with_len-from}
use Rattle.round_model.proofs.SendersHeard.{messages_heard-processors, messages_heard-rise}
use Rattle.round_model.proofs.rounds.run_round.Goals as goal

pub index-requires : goal.index-requires
index-requires c =
    let heard = λ (p : ℕ). messages_heard c.args.config.now (table_of c.args.heard.now) (node_of c.args.nodes.now) p c.args.round in
    omega (
      arith,
      rows_of-length c.in_ok-messages.messages.items heard 1 c.args.config.now.n c.in_ok-messages.ensures,
      c.in_ok-messages.messages.ok.0,
    )

pub compute-requires-clause-senders : goal.compute-requires-clause-senders
compute-requires-clause-senders c =
    let heard = λ (p : ℕ). messages_heard c.args.config.now (table_of c.args.heard.now) (node_of c.args.nodes.now) p c.args.round in
    let is = rows_of-at c.in_ok-messages.messages.items heard 1 c.args.config.now.n c.loop-i.i c.index.result.now c.in_ok-messages.ensures
    (omega arith) c.index.ensures in
    All-same (λ (m : Message). IsProc c.args.config.now (sender_of m)) c.deref.result.now _ (c.deref.ensures.value ∙ is)
    (messages_heard-processors c.args.config.now (table_of c.args.heard.now) (node_of c.args.nodes.now) (1 + c.loop-i.i) c.args.round)

pub compute-requires-clause-rising : goal.compute-requires-clause-rising
compute-requires-clause-rising c =
    let heard = λ (p : ℕ). messages_heard c.args.config.now (table_of c.args.heard.now) (node_of c.args.nodes.now) p c.args.round in
    let is = rows_of-at c.in_ok-messages.messages.items heard 1 c.args.config.now.n c.loop-i.i c.index.result.now c.in_ok-messages.ensures
    (omega arith) c.index.ensures in
    let P : List Message → Type 0 = λ messages. IsStrictlyIncreasing (map sender_of messages) in
    subst P (sym (c.deref.ensures.value ∙ is))
    (messages_heard-rise c.args.config.now (table_of c.args.heard.now) (node_of c.args.nodes.now) (1 + c.loop-i.i) c.args.round)

pub loop-i-preserved : goal.loop-i-preserved
loop-i-preserved c =
    let config = c.args.config.now in
    let i = c.loop-i.i in
    let heard = λ (p : ℕ). messages_heard config (table_of c.args.heard.now) (node_of c.args.nodes.now) p c.args.round in
    let is = rows_of-at c.in_ok-messages.messages.items heard 1 config.n i c.index.result.now c.in_ok-messages.ensures
    (omega arith) c.index.ensures in
    let e : 1 + i ≡ i + 1 = omega arith in
    let node = get_or_default c.loop-i.nodes i c.index-nodes-i.result (opening 0) (omega arith) ∙ c.loop-i.invariant.left i (omega arith) in
    let here : get_or (set c.loop-i.nodes i c.compute.new.self) i (opening 0)
    ≡ next config (get_or c.args.nodes.now i (opening 0)) (i + 1) c.args.round (heard (i + 1)) =
    get_or-set_same c.loop-i.nodes i c.compute.new.self (opening 0) (omega arith)
    ∙ c.in_ok-compute.ensures.ok
    ∙ ap (λ (s : State). next config s (i + 1) c.args.round c.deref.result.now) node
    ∙ ap (λ (messages : List Message). next config (get_or c.args.nodes.now i (opening 0)) (i + 1) c.args.round messages)
    (c.deref.ensures.value ∙ is ∙ ap heard e) in
    record {
      done = below_more _ i (λ k h. get_or-set_other c.loop-i.nodes i k c.compute.new.self (opening 0) (λ same. absurd (omega arith))
          ∙ c.loop-i.invariant.done k h) here;
      left = λ k h. get_or-set_other c.loop-i.nodes i k c.compute.new.self (opening 0) (λ same. absurd (omega arith))
          ∙ c.loop-i.invariant.left k (omega arith);
    }

pub returns : goal.returns
returns c =
    let config = c.args.config.now in
    let table = table_of c.args.heard.now in
    map-range_with_len-from (λ p. next config (node_of c.args.nodes.now p) p c.args.round
    (messages_heard config table (node_of c.args.nodes.now) p c.args.round))
    c.loop-i.nodes 1 config.n (opening 0) (omega arith)
    (λ k h.
    let e : 1 + k ≡ k + 1 = omega arith in
    let e' : k + 1 - 1 ≡ k = omega arith in
    rw (e, e') (c.loop-i.invariant.done k (omega arith)))
