use Rattle.std.proofs.Common.{sym, subst}
use Rattle.timed_events.specs.Checks.{AreMeant}
use Rattle.event_log.specs.LogTraces.{IsUnmadeFor}
use Rattle.event_log.proofs.PlacedImports.{whole-unmade}
use Rattle.event_log.proofs.UnmadeLogs.{few-events, meant-events, processors-events, some-events, unmade-behind, unmade-place}
use Rattle.event_log.proofs.passed_logs.passed_log.Goals as goal

pub passed_events-requires-clause-meant : goal.passed_events-requires-clause-meant
passed_events-requires-clause-meant c =
    let log = c.args.log.now in
    subst (λ events. AreMeant events c.len-n.result) (sym c.as_slice.ensures.value)
    (subst (λ n. AreMeant log.events.items n) (sym c.len-n.ensures) (meant-events log c.requires.sound))

pub log_error-requires-clause-place : goal.log_error-requires-clause-place
log_error-requires-clause-place c =
    let log = c.args.log.now in
    let clock = c.args.how.clock in
    let why = c.in-Err.why in
    let unmade = subst (λ events. IsUnmadeFor c.args.how.limit c.args.how.spread c.len-n.result events clock why)
    c.as_slice.ensures.value c.in-Err.ensures.refused in
    unmade-place c.args.how.limit c.args.how.spread c.len-n.result log.events.items clock why
    (some-events log c.requires.sound) (few-events log c.requires.sound) unmade

pub log_error-requires-clause-processors : goal.log_error-requires-clause-processors
log_error-requires-clause-processors c = processors-events c.args.log.now c.requires.sound

pub log_error-requires-clause-behind : goal.log_error-requires-clause-behind
log_error-requires-clause-behind c =
    let clock = c.args.how.clock in
    let why = c.in-Err.why in
    let unmade = subst (λ events. IsUnmadeFor c.args.how.limit c.args.how.spread c.len-n.result events clock why)
    c.as_slice.ensures.value c.in-Err.ensures.refused in
    unmade-behind c.args.how.limit c.args.how.spread c.len-n.result c.args.log.now.events.items clock why unmade

pub returns-in-Err-clause-refused : goal.returns-in-Err-clause-refused
returns-in-Err-clause-refused c =
    let log = c.args.log.now in
    let how = c.args.how in
    let why = c.in-Err.why in
    let unmade = subst (λ events. IsUnmadeFor how.limit how.spread c.len-n.result events how.clock why)
    c.as_slice.ensures.value c.in-Err.ensures.refused in
    whole-unmade how.limit how.spread c.args.text.now log.nodes log.events.items how.clock why c.log_error.result
    (some-events log c.requires.sound)
    (subst (λ n. IsUnmadeFor how.limit how.spread n log.events.items how.clock why) c.len-n.ensures unmade) c.log_error.ensures
