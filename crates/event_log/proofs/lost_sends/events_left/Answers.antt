use Rattle.std.proofs.Common.{ℕ, ◌≡◌, ◌∙◌, List, map, sym, ap, subst}
use Rattle.std.specs.Prelude.{slice_get}
use Rattle.std.specs.List.Sorted.{IsStrictlyIncreasing}
use Rattle.event_log.specs.Events.{seen}
use Rattle.event_log.specs.LostSends.{left_event, left_places, new_places}
use Rattle.event_log.proofs.LostSends.{left-each, left-rising}
use Rattle.event_log.proofs.lost_sends.events_left.Goals as goal

pub kept_at-requires-clause-rising : goal.kept_at-requires-clause-rising
kept_at-requires-clause-rising c =
    let events = c.args.events.items in
    let old : c.in_ok-places.places.old.items ≡ left_places events = c.in_ok-places.ensures.old
    ∙ ap left_places c.as_slice-2.ensures.value in
    subst (λ (xs : List ℕ). IsStrictlyIncreasing xs) (sym (c.deref-2.ensures.value ∙ old)) (left-rising events)

pub returns-clause-left : goal.returns-clause-left
returns-clause-left c =
    let events = c.args.events.items in
    let places = c.in_ok-places.places in
    let new : places.new.items ≡ new_places events = c.in_ok-places.ensures.new ∙ ap new_places c.as_slice-2.ensures.value in
    record {
      places_are = c.in_ok-places.ensures.old ∙ ap left_places c.as_slice-2.ensures.value;
      each = left-each events c.kept_at.result.items c.in_ok-left.left.items (new_places events) places.old.items
          (c.kept_at.ensures ∙ ap (map (slice_get events)) c.deref-2.ensures.value) (c.in_ok-left.ensures
          ∙ ap (λ (ns : List ℕ). map (left_event ns) (map seen c.kept_at.result.items)) (c.deref-3.ensures.value ∙ new));
    }
