use Rattle.std.proofs.Common.{refl, ◌-◌, ◌≡◌, arith, sym, ◌∙◌}
use Rattle.std.specs.Prelude.{option_copied, slice_get}
use Rattle.std.proofs.lemmas.Bool.Decides.{nat_tests}
use Rattle.step_trace.proofs.KeptTicks.{tick_by_number, tick_after}
use Rattle.step_trace.proofs.tick_lists.TickList.tick.Goals as goal

pub returns-then-no-by_number : goal.returns-then-no-by_number
returns-then-no-by_number c =
    let t = c.if-no-by_number.true in
    sym (tick_by_number c.args.self.now.by_number c.args.self.now.others.items c.args.no (grind (arith, nat_tests)))

pub returns-in-Some : goal.returns-in-Some
returns-in-Some c =
    let f = c.if-no-by_number.false in
    let list = c.args.self.now in
    let found : option_copied c.item_at.result ≡ slice_get list.others.items (c.args.no - list.by_number - 1) =
    rw (← c.from-by_number.ensures, ← c.deref.ensures.value) c.item_at.ensures in
    sym (tick_after list.by_number list.others.items c.args.no (grind (arith, nat_tests)) ∙ rw (← found, c.in-Some.is) (sym c.from.ensures))

pub returns-in-None : goal.returns-in-None
returns-in-None c =
    let f = c.if-no-by_number.false in
    let list = c.args.self.now in
    let found : option_copied c.item_at.result ≡ slice_get list.others.items (c.args.no - list.by_number - 1) =
    rw (← c.from-by_number.ensures, ← c.deref.ensures.value) c.item_at.ensures in
    sym (tick_after list.by_number list.others.items c.args.no (grind (arith, nat_tests)) ∙ rw (← found, c.in-None.is) refl)
