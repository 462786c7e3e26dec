use Rattle.std.proofs.Common.{◌<◌, ◌≤◌, None, false, true, refl, sym, subst, length, arith}
use Rattle.timed_events.specs.declared.idle_traces.IdleError.TheVariants as filled
use Rattle.timed_events.specs.Checks.{AreMeant}
use Rattle.event_log.specs.declared.reading.TheConstants.{MAX_EVENTS}
use Rattle.event_log.specs.TickRows.{IsRowRefusal, clock_of}
use Rattle.event_log.proofs.OtherRefusals.{whole-other}
use Rattle.event_log.proofs.TickTables.{log-rows, whole-refused}
use Rattle.event_log.proofs.UnmadeLogs.{few-events, meant-events, processors-events, some-events, unmade-behind, unmade-place}
use Rattle.event_log.proofs.tick_tables.whole_rows.Goals as goal

pub tick_rows-requires-clause-least : goal.tick_rows-requires-clause-least
tick_rows-requires-clause-least c = let two = c.requires.sound.two in let n = c.len-n.ensures in omega arith

pub tick_rows-requires-clause-most : goal.tick_rows-requires-clause-most
tick_rows-requires-clause-most c = let few = c.requires.sound.few_nodes in let n = c.len-n.ensures in omega arith

pub tick_rows-requires-clause-some : goal.tick_rows-requires-clause-some
tick_rows-requires-clause-some c = subst (λ events. 0 < length events)
    (sym c.as_slice.ensures.value) (some-events c.args.log.now c.requires.sound)

pub tick_rows-requires-clause-few : goal.tick_rows-requires-clause-few
tick_rows-requires-clause-few c = subst (λ events. length events ≤ MAX_EVENTS)
    (sym c.as_slice.ensures.value) (few-events c.args.log.now c.requires.sound)

pub tick_rows-requires-clause-meant : goal.tick_rows-requires-clause-meant
tick_rows-requires-clause-meant c = subst (λ n. AreMeant c.as_slice.result.now n) (sym c.len-n.ensures) (subst
    (λ events. AreMeant events (length c.args.log.now.nodes)) (sym c.as_slice.ensures.value) (meant-events c.args.log.now c.requires.sound))

pub log_error-requires-clause-place : goal.log_error-requires-clause-place
log_error-requires-clause-place c =
    let h = subst (λ events. IsRowRefusal events c.args.log.now.kind c.args.until c.in-Err.why)
    c.as_slice.ensures.value c.in-Err.ensures.refused in
    unmade-place None true c.len-n.result c.args.log.now.events.items (clock_of c.args.log.now.kind c.args.until h.0)
    (filled.Events c.in-Err.why) (some-events c.args.log.now c.requires.sound)
    (few-events c.args.log.now c.requires.sound) h.2

pub log_error-requires-clause-few : goal.log_error-requires-clause-few
log_error-requires-clause-few c = few-events c.args.log.now c.requires.sound

pub log_error-requires-clause-processors : goal.log_error-requires-clause-processors
log_error-requires-clause-processors c = processors-events c.args.log.now c.requires.sound

pub log_error-requires-clause-behind : goal.log_error-requires-clause-behind
log_error-requires-clause-behind c = λ i e.
    let h = subst (λ events. IsRowRefusal events c.args.log.now.kind c.args.until c.in-Err.why)
    c.as_slice.ensures.value c.in-Err.ensures.refused in
    unmade-behind None true c.len-n.result c.args.log.now.events.items
    (clock_of c.args.log.now.kind c.args.until h.0) (filled.Events c.in-Err.why) h.2 i e

pub returns-in-Ok-clause-rows : goal.returns-in-Ok-clause-rows
returns-in-Ok-clause-rows c =
    let log = c.args.log.now in
    log-rows false log.kind (length log.nodes) c.len-n.result
    log.events.items log.events.items c.as_slice.result.now None c.args.until c.in-Ok.rows.items
    c.len-n.ensures c.as_slice.ensures.value (refl, refl) (some-events log c.requires.sound) c.in-Ok.ensures.widths c.in-Ok.ensures.each

pub returns-in-Err-clause-refused : goal.returns-in-Err-clause-refused
returns-in-Err-clause-refused c =
    let log = c.args.log.now in
    whole-refused c.args.text.now log.nodes log.events.items c.as_slice.result.now
    log.kind c.args.until c.in-Err.why c.log_error.result (some-events log c.requires.sound)
    c.as_slice.ensures.value c.in-Err.ensures.refused c.log_error.ensures

pub returns-in-Err-clause-other : goal.returns-in-Err-clause-other
returns-in-Err-clause-other c =
    let log = c.args.log.now in
    whole-other c.args.text.now log.nodes log.events.items c.in-Err.why c.log_error.result c.in-Err.ensures.other c.log_error.ensures
