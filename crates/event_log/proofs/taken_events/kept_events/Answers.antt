use Rattle.std.proofs.Common.{ℕ, ◌≡◌, List, [], ◌∷◌, length, refl, sym, arith}
use Rattle.event_log.specs.LostSends.{left_places}
use Rattle.event_log.proofs.taken_events.kept_events.Goals as goal

-- a list of no elements
no-places : (xs ys : List ℕ) → xs ≡ ys → length xs ≡ 0 → ys ≡ []
no-places [] ys e n = sym e
no-places (x ∷ xs) ys e n = absurd (omega (arith, n))

pub returns-then-len-eq0-clause-refused : goal.returns-then-len-eq0-clause-refused
returns-then-len-eq0-clause-refused c =
    let none : length c.in-Ok.left.places.items ≡ 0 =
    (let ok = c.in-Ok.left.places.ok in let len = c.len.ensures in let zero = c.if-len-eq0.true in omega (arith, ok, len, zero)) in
    (no-places c.in-Ok.left.places.items (left_places c.args.events.items) c.in-Ok.ensures.left.places_are none, refl)

pub returns-clause-some : goal.returns-clause-some
returns-clause-some c = let ok = c.in-Ok.left.places.ok in
    let len = c.len.ensures in let some = c.if-len-eq0.false in omega (arith, ok, len, some)
