use Rattle.std.proofs.Common.{ℕ, ◌∙◌, ◌<◌, ◌≤◌, ap, None, Some, false, true, List, sym, subst, length, arith}
use Rattle.std.proofs.lemmas.Result.{err_from_is_err_and}
use Rattle.timed_events.specs.declared.events.Clock.{Clock}
use Rattle.timed_events.specs.declared.idle_traces.IdleError.TheVariants as filled
use Rattle.timed_events.specs.Checks.{AreMeant}
use Rattle.event_log.specs.declared.reading.TheConstants.{MAX_EVENTS}
use Rattle.event_log.specs.Imports.{IsUnmadeUnlessMemory}
use Rattle.event_log.specs.MergedLogs.{ArePartsWithin}
use Rattle.event_log.proofs.OneLog.{aligned-log-once}
use Rattle.timed_events.specs.declared.events.Event.{Event}
use Rattle.event_log.specs.TickRows.{IsRowRefusal, clock_of}
use Rattle.event_log.proofs.OtherRefusals.{left-other, unmerged-other}
use Rattle.event_log.proofs.PlacedImports.{untaken-unmade}
use Rattle.event_log.proofs.TakenEvents.{taken-few, taken-long, taken-meant, taken-processors}
use Rattle.event_log.proofs.TickTables.{left-refused, log-rows, taken-kept}
use Rattle.event_log.proofs.UnmadeLogs.{unmade-behind}
use Rattle.event_log.proofs.tick_tables.left_rows.Goals as goal

pub clock_of-clock-requires : goal.clock_of-clock-requires
clock_of-clock-requires c = omega arith

pub tick_rows-requires-clause-least : goal.tick_rows-requires-clause-least
tick_rows-requires-clause-least c = let two = c.requires.sound.two in
    let n = c.len-n.ensures in let same = ap (λ (ns : List (List ℕ)). length ns) c.in_ok-left.ensures.nodes in omega (arith, two, n, same)

pub tick_rows-requires-clause-most : goal.tick_rows-requires-clause-most
tick_rows-requires-clause-most c = let few = c.requires.sound.few_nodes in
    let n = c.len-n.ensures in let same = ap (λ (ns : List (List ℕ)). length ns) c.in_ok-left.ensures.nodes in omega (arith, few, n, same)

pub tick_rows-requires-clause-some : goal.tick_rows-requires-clause-some
tick_rows-requires-clause-some c =
    let left = c.in_ok-left.left in
    let long = taken-long true false c.args.log.events.items
    left.events.items c.clock_of-clock.result left.places.items left.parts c.in_ok-left.ensures.taken in
    subst (λ events. 0 < length events) (sym c.as_slice.ensures.value) (subst (λ n. 0 < n) (sym long) c.in_ok-left.ensures.some)

pub tick_rows-requires-clause-few : goal.tick_rows-requires-clause-few
tick_rows-requires-clause-few c =
    let left = c.in_ok-left.left in
    subst (λ events. length events ≤ MAX_EVENTS) (sym c.as_slice.ensures.value)
    (taken-few c.args.log c.requires.sound true false c.clock_of-clock.result left.events.items
    (Some left.places.items) left.parts c.in_ok-left.ensures.taken)

pub tick_rows-requires-clause-meant : goal.tick_rows-requires-clause-meant
tick_rows-requires-clause-meant c =
    let left = c.in_ok-left.left in
    subst
    (λ n. AreMeant c.as_slice.result.now n) (sym (c.len-n.ensures ∙ ap (λ (ns : List (List ℕ)). length ns) c.in_ok-left.ensures.nodes))
    (subst (λ events. AreMeant events (length c.args.log.nodes)) (sym c.as_slice.ensures.value)
    (taken-meant c.args.log c.requires.sound true false c.clock_of-clock.result left.events.items
    (Some left.places.items) left.parts c.in_ok-left.ensures.taken))

pub told_again-requires-clause-few : goal.told_again-requires-clause-few
told_again-requires-clause-few c =
    let left = c.in_ok-left.left in
    taken-few c.args.log c.requires.sound true false c.clock_of-clock.result left.events.items
    (Some left.places.items) left.parts c.in_ok-left.ensures.taken

pub told_again-requires-clause-processors : goal.told_again-requires-clause-processors
told_again-requires-clause-processors c =
    let left = c.in_ok-left.left in
    taken-processors c.args.log c.requires.sound true false c.clock_of-clock.result left.events.items
    (Some left.places.items) left.parts c.in_ok-left.ensures.taken

pub told_again-requires-clause-behind : goal.told_again-requires-clause-behind
told_again-requires-clause-behind c = λ i e.
    let h =
    subst (λ events. IsRowRefusal events c.args.log.kind c.args.until c.in-Err.why) c.as_slice.ensures.value c.in-Err.ensures.refused in
    unmade-behind None true c.len-n.result c.in_ok-left.left.events.items
    (clock_of c.args.log.kind c.args.until h.0) (filled.Events c.in-Err.why) h.2 i e

pub returns-in_err-left-clause-refused : goal.returns-in_err-left-clause-refused
returns-in_err-left-clause-refused c =
    let p = err_from_is_err_and c.from_residual.result c.from_residual.ensures.1 in
    let log = c.args.log in
    let why = c.in_err-left.field-0.0 in
    rw (p.1, p.2) (
      1,
      omega arith,
      subst (λ (clock : Clock). IsUnmadeUnlessMemory true false None true c.args.text.now log.nodes log.events.items clock why)
          c.clock_of-clock.ensures.is (untaken-unmade true
          false None true c.args.text.now log.nodes log.events.items c.clock_of-clock.result why c.in_err-left.ensures.refused),
    )

pub returns-in-Ok-clause-rows : goal.returns-in-Ok-clause-rows
returns-in-Ok-clause-rows c =
    let log = c.args.log in
    let left = c.in_ok-left.left in
    let long = taken-long true false log.events.items left.events.items c.clock_of-clock.result left.places.items
    left.parts c.in_ok-left.ensures.taken in
    let kept =
    taken-kept log.events.items left.events.items c.clock_of-clock.result left.places.items left.parts c.in_ok-left.ensures.taken in
    log-rows true log.kind (length log.nodes) c.len-n.result
    log.events.items left.events.items c.as_slice.result.now kept.0 c.args.until c.in-Ok.rows.items
    (c.len-n.ensures ∙ ap (λ (ns : List (List ℕ)). length ns) c.in_ok-left.ensures.nodes)
    c.as_slice.ensures.value kept.1 (subst (λ n. 0 < n) (sym long) c.in_ok-left.ensures.some) c.in-Ok.ensures.widths c.in-Ok.ensures.each

pub returns-clause-refused : goal.returns-clause-refused
returns-clause-refused c =
    let log = c.args.log in
    let left = c.in_ok-left.left in
    left-refused c.args.text.now log.nodes log.events.items left.events.items
    c.as_slice.result.now left.places.items left.parts log.kind c.args.until c.clock_of-clock.result c.in-Err.why c.told_again.result
    c.as_slice.ensures.value c.in_ok-left.ensures.taken c.in-Err.ensures.refused
    (c.told_again.ensures log.nodes log.events.items c.requires.given)

pub told_again-requires-clause-parts : goal.told_again-requires-clause-parts
told_again-requires-clause-parts c = λ nodes events again.
    let left = c.in_ok-left.left in
    let log = c.args.log in
    let same = (aligned-log-once c.args.options.now c.args.text.now log.nodes nodes log.events.items events c.requires.given again).1 in
    subst (λ (es : List Event). ArePartsWithin left.parts (length es)) same c.in_ok-left.ensures.parts

pub returns-in_err-left-clause-other : goal.returns-in_err-left-clause-other
returns-in_err-left-clause-other c =
    let p = err_from_is_err_and c.from_residual.result c.from_residual.ensures.1 in
    rw (p.1, p.2) (unmerged-other c.args.log.events.items c.clock_of-clock.result c.in_err-left.field-0.0 c.in_err-left.ensures.refused)

pub returns-clause-other : goal.returns-clause-other
returns-clause-other c =
    let log = c.args.log in
    let left = c.in_ok-left.left in
    left-other c.args.text.now log.nodes log.events.items left.events.items left.places.items left.parts
    c.in-Err.why c.told_again.result c.in-Err.ensures.other (c.told_again.ensures log.nodes log.events.items c.requires.given)
