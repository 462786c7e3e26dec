use Rattle.std.proofs.Common.{ℕ, ◌≡◌, ◌-◌, ◌+◌, ◌∙◌, ◌++◌, ◌∷◌, [], arith, ap, sym, map}
use Rattle.std.specs.List.{range_with_len}
use Rattle.std.proofs.lemmas.List.{map_push}
use Rattle.std.proofs.lemmas.List.FromFn.{map-range_with_len_more}
use Rattle.round_model.proofs.Common.{messages_heard, table_of, rows_of, node_of}
use Rattle.round_model.proofs.rounds.messages_of_round.Goals as goal

pub loop-p-preserved : goal.loop-p-preserved
loop-p-preserved c =
    let heard = λ (p : ℕ). messages_heard c.args.config.now (table_of c.args.heard.now) (node_of c.args.nodes.now) p c.args.round in
    let e : c.loop-p.p + 1 - 1 ≡ c.loop-p.p - 1 + 1 = omega arith in
    ap rows_of c.in_ok-push.ensures.items
    ∙ map_push (λ row. row.items) c.loop-p.messages.items c.in_ok-messages_to.field-0
    ∙ ap (λ rows. rows ++ c.in_ok-messages_to.field-0.items ∷ []) c.loop-p.invariant
    ∙ ap (λ row. map heard (range_with_len 1 (c.loop-p.p - 1)) ++ row ∷ []) c.in_ok-messages_to.ensures
    ∙ sym (map-range_with_len_more heard 1 (c.loop-p.p - 1) c.loop-p.p (omega arith))
    ∙ ap (λ n. map heard (range_with_len 1 n)) (sym e)
