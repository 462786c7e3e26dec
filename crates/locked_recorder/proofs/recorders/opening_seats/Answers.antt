use Rattle.std.proofs.Common.{◌≡◌, ◌+◌, ◌-◌, ◌∙◌, ◌++◌, ◌∷◌, [], ap, ap₂, sym, arith}
use Rattle.std.proofs.lemmas.List.FromFn.{map-range_with_len_more}
use Rattle.locked_recorder.specs.Seats.{opening_seat, opening_seats}
use Rattle.locked_recorder.proofs.recorders.opening_seats.Goals as goal

pub loop-p-preserved : goal.loop-p-preserved
loop-p-preserved c =
    let p = c.loop-p.p in
    let low = c.loop-p.invariant.0 in
    let place : 1 + (p - 1) ≡ p = omega (arith, low) in
    let count : p - 1 + 1 ≡ p + 1 - 1 = omega (arith, low) in
    let more = map-range_with_len_more (opening_seat c.args.tag) 1 (p - 1) p place in (
      omega arith,
      c.in_ok-push.ensures.items ∙ ap₂ (λ xs x. xs ++ x ∷ []) c.loop-p.invariant.1 c.new.ensures
          ∙ sym more ∙ ap (opening_seats c.args.tag) count,
    )
