use Rattle.std.proofs.Common.{[], refl, arith}
use Rattle.std.proofs.lemmas.List.{map-set, get_or-map}
use Rattle.round_model.proofs.heard_sets.put.Goals as goal

pub returns : goal.returns
returns c =
    let row = get_or-map (λ row. row.items) c.args.sets.now c.args.i c.index-sets-i.result [] (omega arith) in
    rw (map-set, row) refl
