use Rattle.std.proofs.Common.{◌≡◌, ◌+◌, ◌-◌, ◌∙◌, ◌++◌, ◌∷◌, [], Vec, Global, Option, Some, None, arith, ap, sym, true, false}
use Rattle.std.specs.Prelude.{option_map}
use Rattle.std.proofs.lemmas.List.{append-nil, get_or_read}
use Rattle.round_model.proofs.Common.{has_proc, State, opening, Message, table_of, node_of}
use Rattle.lock_phases.specs.NodeFunctions.{out}
use Rattle.round_model.proofs.ProcessorRanges.{filter_map-range_with_len-more}
use Rattle.round_model.proofs.HeardMessages.{heard_of}
use Rattle.round_model.proofs.SendersHeard.{heard_of-lost, heard_of-heard}
use Rattle.round_model.proofs.rounds.messages_to.Goals as goal
use Rattle.round_model.proofs.rounds.messages_to.Goals.{in-Some+in_ok-push, in_default}

pub loop-i-preserved-then-not-contains : goal.loop-i-preserved-then-not-contains
loop-i-preserved-then-not-contains c =
    let table = table_of c.args.heard.now in
    let nodes = node_of c.args.nodes.now in
    let i = c.loop-i.i in
    let lost : table c.args.to c.args.round (i + 1) ≡ false = ap (λ set. has_proc set (i + 1)) (sym c.get-senders.ensures.value)
    ∙ sym c.contains.ensures ∙ c.if-not-contains.true in
    let none = heard_of-lost c.args.config.now table nodes c.args.to c.args.round (i + 1) lost in
    c.loop-i.invariant
    ∙ sym (append-nil _)
    ∙ sym
    (filter_map-range_with_len-more (heard_of c.args.config.now table nodes c.args.to c.args.round) 1 i (i + 1) None (omega arith) none)

pub loop-i-preserved : goal.loop-i-preserved
loop-i-preserved c =
    let table = table_of c.args.heard.now in
    let nodes = node_of c.args.nodes.now in
    let i = c.loop-i.i in
    let heard : table c.args.to c.args.round (i + 1) ≡ true = ap (λ set. has_proc set (i + 1)) (sym c.get-senders.ensures.value)
    ∙ sym c.contains.ensures ∙ c.if-not-contains.false in
    let e : i + 1 - 1 ≡ i = omega arith in
    let node : c.index-nodes-i.result ≡ nodes (i + 1) =
    rw e (get_or_read c.args.nodes.now i c.index-nodes-i.result c.loop-i-test.true c.index-nodes-i.is (opening 0)) in
    let said : c.in_ok-body.field-0 ≡ out c.args.config.now (nodes (i + 1)) (i + 1) c.args.round c.args.to = c.in_ok-body.ensures.ok
    ∙ ap (λ (s : State). out c.args.config.now s (i + 1) c.args.round c.args.to) node in
    let gives = heard_of-heard c.args.config.now table nodes c.args.to c.args.round (i + 1) heard
    ∙ ap (option_map (λ body. (i + 1, body))) (sym said) in
    let more = λ (message : Option Message) (e : option_map (λ body. (i + 1, body)) c.in_ok-body.field-0 ≡ message).
    sym (filter_map-range_with_len-more (heard_of c.args.config.now table nodes c.args.to c.args.round) 1 i
    (i + 1) message (omega arith) (gives ∙ e)) in
    elim c.match-branch-2.branch [
      | in-Some+in_ok-push w ↦
          ap (λ (v : Vec Message Global). v.items) w.messages-is
          ∙ w.in_ok-push.ensures.items
          ∙ ap (λ heard. heard ++ (i + 1, w.in-Some.body) ∷ []) c.loop-i.invariant
          ∙ more (Some (i + 1, w.in-Some.body)) (ap (option_map (λ body. (i + 1, body))) w.in-Some.is)
      | in_default w ↦
          ap (λ (v : Vec Message Global). v.items) w.messages-is
          ∙ c.loop-i.invariant
          ∙ sym (append-nil _)
          ∙ more None (ap (option_map (λ body. (i + 1, body))) w.in_default.is)
    ]
