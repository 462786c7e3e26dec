use Rattle.std.proofs.Common.{ℕ, ◌<◌, ◌≤◌, ◌∙◌, List, Some, refl, sym, ap, ap₂, subst, length, arith, rules}
use mir.Val.{SFits}
use mir.Syntax.{w128}
use Rattle.std.specs.Cow.{cow_slice_items}
use Rattle.std.proofs.lemmas.Int.{to_z-of_z}
use Rattle.std.proofs.lemmas.Result.{err_from_is_err_and}
use Rattle.timed_events.specs.Checks.{AreMeant}
use Rattle.timed_events.specs.Times.{least_time}
use Rattle.step_trace.specs.declared.traces.TheConstants.{MAX_STEPS}
use Rattle.timed_events.specs.declared.events.Event.{Event}
use Rattle.event_log.specs.Imports.{IsAlignedLogOf}
use Rattle.event_log.specs.LeftRefusals.{IsPlacedErrorUnlessMemory}
use Rattle.event_log.specs.LogTraces.{ArePlacedBy, IsMadeBy, IsUnmadeFor}
use Rattle.event_log.specs.TakenEvents.{removed_by}
use Rattle.event_log.specs.MergedLogs.{ArePartsWithin}
use Rattle.event_log.proofs.OneLog.{aligned-log-once}
use Rattle.event_log.proofs.PlacedImports.{left-unmade, untaken-unmade}
use Rattle.event_log.proofs.TakenEvents.{taken-few, taken-long, taken-meant, taken-processors}
use Rattle.event_log.proofs.UnmadeLogs.{unmade-behind}
use Rattle.event_log.proofs.left_imports.left_import.Goals as goal

pub returns-in_err-left-clause-refused : goal.returns-in_err-left-clause-refused
returns-in_err-left-clause-refused g c =
    let p = err_from_is_err_and c.from_residual.result c.from_residual.ensures.1 in
    let log = c.args.aligned.log in
    rw (p.1, p.2) (untaken-unmade c.args.how.drop_lost c.args.how.merge c.args.how.limit c.args.how.spread
    (cow_slice_items c.args.text) log.nodes log.events.items c.args.how.clock c.in_err-left.field-0.0
    c.in_err-left.ensures.refused)

pub returns-in-Err-clause-refused : goal.returns-in-Err-clause-refused
returns-in-Err-clause-refused g c =
    let log = c.args.aligned.log in
    let left = c.in_ok-left.left in
    let why = c.in-Err.why in
    let unmade = subst (λ events. IsUnmadeFor c.args.how.limit c.args.how.spread c.len-n.result events c.args.how.clock why)
    c.as_slice-2.ensures.value c.in-Err.ensures.refused in
    left-unmade c.args.how.drop_lost c.args.how.merge c.args.how.limit c.args.how.spread
    (cow_slice_items c.args.text) log.nodes log.events.items left.events.items left.places.items
    left.parts c.args.how.clock why c.told_again.result c.in_ok-left.ensures.taken
    (subst (λ n. IsUnmadeFor c.args.how.limit c.args.how.spread n left.events.items c.args.how.clock why)
    (c.len-n.ensures ∙ ap (λ (ns : List (List ℕ)). length ns) c.in_ok-left.ensures.nodes) unmade)
    (subst (λ text. IsPlacedErrorUnlessMemory text
    log.nodes log.events.items left.events.items left.places.items left.parts why c.told_again.result) c.deref.ensures.value
    (c.told_again.ensures log.nodes log.events.items
    (subst (λ t. IsAlignedLogOf c.args.options.now t log.nodes log.events.items) (sym c.deref.ensures.value) c.requires.given)))

pub returns-clause-made : goal.returns-clause-made
returns-clause-made g c =
    let left = c.in_ok-left.left in
    let nodes = c.len-n.ensures ∙ ap (λ (ns : List (List ℕ)). length ns) c.in_ok-left.ensures.nodes in
    let limit = c.args.how.limit in
    let spread = c.args.how.spread in
    let clock = c.args.how.clock in
    let made = c.in_ok-made.made in
    let fits : SFits w128 c.least_time-first.result = search rules in
    rw (
      c.left_import_of.ensures.import,
      c.left_import_of.ensures.events,
      c.left_import_of.ensures.logged,
      c.left_import_of.ensures.at,
      c.left_import_of.ensures.parts,
      c.left_import_of.ensures.first,
      c.left_import_of.ensures.places,
    ) (record {
      is = record {
        left = left.events.items;
        left_at = Some left.places.items;
        parts = left.parts;
        are_left = c.in_ok-left.ensures.taken;
        moved = made.moved;
        made =
            subst (λ n. IsMadeBy limit spread n left.events.items clock made.trace made.moved made.idle) nodes c.in_ok-made.ensures.trace;
        moved_is = refl;
        lost = c.removed-lost.ensures ∙ ap₂ (λ (before after : ℕ). removed_by c.args.how.drop_lost before after)
            (let ok = c.args.aligned.log.events.ok in let len = c.len-all.ensures in omega (arith, ok, len))
            c.in_ok-left.ensures.kept;
        merged = c.removed-merged.ensures
            ∙ ap₂ (λ (before after : ℕ). removed_by c.args.how.merge before after) c.in_ok-left.ensures.kept
            (let ok = left.events.ok in let len = c.len-logged.ensures in omega (arith, ok, len));
      };
      so_many = c.len-logged.ensures ∙ sym c.as_slice.ensures.len ∙ ap length c.as_slice.ensures.value;
      at = refl;
      parts_are = λ told. c.parts_for.ensures told ∙ c.take.ensures.value;
      begins = to_z-of_z w128 c.least_time-first.result fits ∙ c.least_time-first.ensures ∙ ap least_time c.as_slice.ensures.value;
      placed = subst (λ n. ArePlacedBy limit spread n left.events.items clock c.trace_of_passed.new.events.items made.places.items)
          nodes c.in_ok-made.ensures.places;
    })

pub least_time-first-requires : goal.least_time-first-requires
least_time-first-requires g c =
    let left = c.in_ok-left.left in
    let long = taken-long c.args.how.drop_lost c.args.how.merge
    c.args.aligned.log.events.items left.events.items c.args.how.clock left.places.items left.parts c.in_ok-left.ensures.taken in
    subst (λ events. 0 < length events) (sym c.as_slice.ensures.value) (subst (λ n. 0 < n) (sym long) c.in_ok-left.ensures.some)

pub trace_of_passed-requires-clause-some : goal.trace_of_passed-requires-clause-some
trace_of_passed-requires-clause-some g c =
    let left = c.in_ok-left.left in
    subst (λ n. 0 < n)
    (sym (taken-long c.args.how.drop_lost c.args.how.merge c.args.aligned.log.events.items left.events.items c.args.how.clock
    left.places.items left.parts c.in_ok-left.ensures.taken)) c.in_ok-left.ensures.some

pub trace_of_passed-requires-clause-few : goal.trace_of_passed-requires-clause-few
trace_of_passed-requires-clause-few g c =
    let left = c.in_ok-left.left in
    taken-few c.args.aligned.log c.requires.sound c.args.how.drop_lost c.args.how.merge c.args.how.clock left.events.items
    (Some left.places.items) left.parts c.in_ok-left.ensures.taken

pub trace_of_passed-requires-clause-meant : goal.trace_of_passed-requires-clause-meant
trace_of_passed-requires-clause-meant g c =
    let left = c.in_ok-left.left in
    subst (λ n. AreMeant left.events.items n) (sym (c.len-n.ensures ∙ ap (λ (ns : List (List ℕ)). length ns) c.in_ok-left.ensures.nodes))
    (taken-meant c.args.aligned.log c.requires.sound c.args.how.drop_lost c.args.how.merge c.args.how.clock left.events.items
    (Some left.places.items) left.parts c.in_ok-left.ensures.taken)

pub passed_events-requires-clause-some : goal.passed_events-requires-clause-some
passed_events-requires-clause-some g c =
    let left = c.in_ok-left.left in
    let long = taken-long c.args.how.drop_lost c.args.how.merge
    c.args.aligned.log.events.items left.events.items c.args.how.clock left.places.items left.parts c.in_ok-left.ensures.taken in
    subst (λ events. 0 < length events) (sym c.as_slice-2.ensures.value) (subst (λ n. 0 < n) (sym long) c.in_ok-left.ensures.some)

pub passed_events-requires-clause-few : goal.passed_events-requires-clause-few
passed_events-requires-clause-few g c =
    let left = c.in_ok-left.left in
    subst (λ events. length events ≤ MAX_STEPS) (sym c.as_slice-2.ensures.value)
    (taken-few c.args.aligned.log c.requires.sound c.args.how.drop_lost c.args.how.merge c.args.how.clock left.events.items
    (Some left.places.items) left.parts c.in_ok-left.ensures.taken)

pub passed_events-requires-clause-meant : goal.passed_events-requires-clause-meant
passed_events-requires-clause-meant g c =
    let left = c.in_ok-left.left in
    subst (λ events. AreMeant events c.len-n.result) (sym c.as_slice-2.ensures.value)
    (subst (λ n. AreMeant left.events.items n) (sym (c.len-n.ensures ∙ ap (λ (ns : List (List ℕ)). length ns) c.in_ok-left.ensures.nodes))
    (taken-meant c.args.aligned.log c.requires.sound c.args.how.drop_lost c.args.how.merge c.args.how.clock left.events.items
    (Some left.places.items) left.parts c.in_ok-left.ensures.taken))

pub told_again-requires-clause-few : goal.told_again-requires-clause-few
told_again-requires-clause-few g c =
    let left = c.in_ok-left.left in
    taken-few c.args.aligned.log c.requires.sound c.args.how.drop_lost c.args.how.merge c.args.how.clock left.events.items
    (Some left.places.items) left.parts c.in_ok-left.ensures.taken

pub told_again-requires-clause-processors : goal.told_again-requires-clause-processors
told_again-requires-clause-processors g c =
    let left = c.in_ok-left.left in
    taken-processors c.args.aligned.log c.requires.sound c.args.how.drop_lost c.args.how.merge c.args.how.clock left.events.items
    (Some left.places.items) left.parts c.in_ok-left.ensures.taken

pub told_again-requires-clause-behind : goal.told_again-requires-clause-behind
told_again-requires-clause-behind g c =
    let left = c.in_ok-left.left in
    let why = c.in-Err.why in
    let unmade = subst (λ events. IsUnmadeFor c.args.how.limit c.args.how.spread c.len-n.result events c.args.how.clock why)
    c.as_slice-2.ensures.value c.in-Err.ensures.refused in
    unmade-behind c.args.how.limit c.args.how.spread c.len-n.result left.events.items c.args.how.clock why unmade

pub told_again-requires-clause-within : goal.told_again-requires-clause-within
told_again-requires-clause-within g c = c.in_ok-left.ensures.within

pub told_again-requires-clause-parts : goal.told_again-requires-clause-parts
told_again-requires-clause-parts g c = λ nodes events again.
    let left = c.in_ok-left.left in
    let text = c.deref.result.now in
    let given = subst (λ t. IsAlignedLogOf c.args.options.now t c.args.aligned.log.nodes c.args.aligned.log.events.items)
    (sym c.deref.ensures.value) c.requires.given in
    let same =
    (aligned-log-once c.args.options.now text c.args.aligned.log.nodes nodes c.args.aligned.log.events.items events given again).1 in
    subst (λ (es : List Event). ArePartsWithin left.parts (length es)) same c.in_ok-left.ensures.parts
