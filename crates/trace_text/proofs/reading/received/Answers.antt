use Rattle.std.proofs.Common.{◌≡◌, ◌∙◌, ◌∷◌, [], Some, refl, sym}
use Rattle.trace_text.specs.TextRefusals.{ids_of}
use Rattle.trace_text.proofs.NumberLists.{ids_of-one}
use Rattle.trace_text.proofs.reading.received.Goals as goal

pub returns-in-Some-clause-act : goal.returns-in-Some-clause-act
returns-in-Some-clause-act c =
    let one : ids_of c.args.arg.now ≡ Some (c.in-Some.id ∷ []) =
    ids_of-one c.args.arg.now c.in-Some.id (sym c.number.ensures ∙ c.in-Some.is) in
    rw (one, c.one.ensures) refl
