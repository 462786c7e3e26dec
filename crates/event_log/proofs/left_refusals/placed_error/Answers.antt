use Rattle.std.proofs.Common.{ℕ, ◌≡◌, ◌<◌, ◌≤◌, List, length, sym, ap, subst, ◌∙◌}
use Rattle.timed_events.specs.declared.events.Event.{Event}
use Rattle.timed_events.specs.declared.events.EventError.{EventError}
use Rattle.timed_events.specs.Checks.{AreOfProcessors}
use Rattle.event_log.specs.declared.reading.TheConstants.{MAX_EVENTS}
use Rattle.event_log.specs.EventRefusals.{IsErrorUnlessMemory, event_place}
use Rattle.event_log.specs.LogPlaces.{reason_in}
use Rattle.event_log.specs.MergedLogs.{ArePartsWithin}
use Rattle.event_log.proofs.PlacedErrors.{no-cycle, reason-within}
use Rattle.event_log.proofs.TakenEvents.{within-parts}
use Rattle.event_log.proofs.UnmadeLogs.{few-events, processors-events}
use Rattle.event_log.proofs.left_refusals.placed_error.Goals as goal

pub reason_in-why-requires : goal.reason_in-why-requires
reason_in-why-requires c = subst (λ (events : List Event). ArePartsWithin c.args.left.now.parts (length events))
    (sym c.as_slice.ensures.value) c.requires.parts

pub error_of-requires-clause-place : goal.error_of-requires-clause-place
error_of-requires-clause-place c =
    let left = c.args.left.now in
    let events = c.args.log.now.events.items in
    let why : c.reason_in-why.result ≡ reason_in events left.places.items left.parts c.args.why =
    c.reason_in-why.ensures ∙ ap (λ (es : List Event). reason_in es c.deref.result.now left.parts c.args.why) c.as_slice.ensures.value
    ∙ ap (λ (ps : List ℕ). reason_in events ps left.parts c.args.why) c.deref.ensures.value in
    subst (λ (why : EventError). event_place why < MAX_EVENTS) (sym why)
    (reason-within left.places.items c.requires.within events
    (few-events c.args.log.now c.requires.sound) left.parts (within-parts left.parts (length events) c.requires.parts) c.args.why)

pub error_of-requires-clause-few : goal.error_of-requires-clause-few
error_of-requires-clause-few c = subst (λ (events : List Event). length events ≤ MAX_EVENTS)
    (sym c.as_slice-2.ensures.value) (few-events c.args.log.now c.requires.sound)

pub error_of-requires-clause-processors : goal.error_of-requires-clause-processors
error_of-requires-clause-processors c = subst AreOfProcessors
    (sym c.as_slice-2.ensures.value) (processors-events c.args.log.now c.requires.sound)

pub error_of-requires-clause-behind : goal.error_of-requires-clause-behind
error_of-requires-clause-behind c = λ i e. absurd (no-cycle c.as_slice.result.now
    c.deref.result.now c.args.left.now.parts c.args.why c.requires.other i (sym c.reason_in-why.ensures ∙ e))

pub returns : goal.returns
returns c =
    let left = c.args.left.now in
    let log = c.args.log.now in
    let events = log.events.items in
    let why : c.reason_in-why.result ≡ reason_in events left.places.items left.parts c.args.why =
    c.reason_in-why.ensures ∙ ap (λ (es : List Event). reason_in es c.deref.result.now left.parts c.args.why) c.as_slice.ensures.value
    ∙ ap (λ (ps : List ℕ). reason_in events ps left.parts c.args.why) c.deref.ensures.value in
    subst (λ (es : List Event). IsErrorUnlessMemory c.args.text.now log.nodes es
    (reason_in events left.places.items left.parts c.args.why) c.error_of.result) c.as_slice-2.ensures.value
    (subst (λ (w : EventError). IsErrorUnlessMemory c.args.text.now log.nodes c.as_slice-2.result.now w c.error_of.result)
    why c.error_of.ensures)
