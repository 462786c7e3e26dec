use Rattle.std.proofs.Common.{◌<◌, ◌∙◌, None, refl, sym, ap, subst, length, rules}
use mir.Val.{SFits}
use mir.Syntax.{w128}
use Rattle.std.proofs.lemmas.Int.{to_z-of_z}
use Rattle.timed_events.specs.Checks.{AreMeant}
use Rattle.timed_events.specs.Times.{least_time}
use Rattle.event_log.specs.LogTraces.{ArePlacedBy, IsMadeBy}
use Rattle.event_log.proofs.TakenEvents.{whole-taken}
use Rattle.event_log.proofs.UnmadeLogs.{meant-events, some-events}
use Rattle.event_log.proofs.imports.whole_import.Goals as goal

pub returns-clause-made : goal.returns-clause-made
returns-clause-made g c =
    let log = c.args.aligned.log in
    let limit = c.args.how.limit in
    let spread = c.args.how.spread in
    let clock = c.args.how.clock in
    let made = c.in_ok-made.made in
    let fits : SFits w128 c.least_time-first.result = search rules in
    rw (
      c.import_of.ensures.import,
      c.import_of.ensures.events,
      c.import_of.ensures.logged,
      c.import_of.ensures.at,
      c.import_of.ensures.parts,
      c.import_of.ensures.first,
      c.import_of.ensures.places,
    ) (record {
      is = record {
        left = log.events.items;
        left_at = None;
        parts = None;
        are_left = whole-taken log.events.items clock (some-events log c.requires.sound);
        moved = made.moved;
        made = subst (λ n. IsMadeBy limit spread n log.events.items clock made.trace made.moved made.idle)
            c.len-n.ensures c.in_ok-made.ensures.trace;
        moved_is = refl;
        lost = refl;
        merged = refl;
      };
      so_many = c.len-logged.ensures ∙ sym c.as_slice.ensures.len ∙ ap length c.as_slice.ensures.value;
      at = refl;
      parts_are = λ _. refl;
      begins = to_z-of_z w128 c.least_time-first.result fits ∙ c.least_time-first.ensures ∙ ap least_time c.as_slice.ensures.value;
      placed = subst (λ n. ArePlacedBy limit spread n log.events.items clock c.trace_of_passed.new.events.items made.places.items)
          c.len-n.ensures c.in_ok-made.ensures.places;
    })

pub least_time-first-requires : goal.least_time-first-requires
least_time-first-requires g c = subst (λ events. 0 < length events)
    (sym c.as_slice.ensures.value) (some-events c.args.aligned.log c.requires.sound)

pub trace_of_passed-requires-clause-meant : goal.trace_of_passed-requires-clause-meant
trace_of_passed-requires-clause-meant g c = subst (λ n. AreMeant c.args.aligned.log.events.items n)
    (sym c.len-n.ensures) (meant-events c.args.aligned.log c.requires.sound)
