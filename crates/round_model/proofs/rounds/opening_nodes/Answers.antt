use Rattle.std.proofs.Common.{◌≡◌, ◌-◌, ◌+◌, ◌∙◌, arith, ap, map}
use Rattle.std.proofs.lemmas.List.{take_all, get_or-map, length-map}
use Rattle.round_model.proofs.Common.{opening, initial_value}
use Rattle.round_model.proofs.ProcessorRanges.{map-range_with_len-from}
use Rattle.round_model.proofs.rounds.opening_nodes.Goals as goal

pub returns-clause-nodes : goal.returns-clause-nodes
returns-clause-nodes c =
    let config = c.args.config.now in
    let long = c.n.ensures.sound.values in
    let all = take_all c.loop-value.value-index c.init-value-items.result.now c.loop-value-test.false ∙ c.init-value-items.ensures in
    c.loop-value.invariant ∙ ap (map opening) all
    ∙ map-range_with_len-from (λ p. opening (initial_value config p))
    (map opening config.init) 1 config.n (opening 0) (length-map config.init opening ∙ long)
    (λ k h. let e : 1 + k - 1 ≡ k = omega arith in rw e (get_or-map opening config.init k 0 (opening 0) (omega arith)))
