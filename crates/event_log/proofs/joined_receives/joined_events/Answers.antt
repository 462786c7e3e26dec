use Rattle.std.proofs.Common.{ℕ, ◌∙◌, ◌<◌, List, length, map, refl, sym, ap, subst, arith}
use Rattle.std.specs.Prelude.{slice_get, slice_index}
use Rattle.std.proofs.lemmas.List.{length-map}
use Rattle.timed_events.specs.declared.events.Event.{Event}
use Rattle.merged_receives.specs.MergeWalks.{AreParts}
use Rattle.event_log.specs.Events.{seen}
use Rattle.event_log.specs.LostSends.{left_event}
use Rattle.event_log.specs.Merges.{joined_from}
use Rattle.event_log.proofs.JoinedEvents.{firsts-inside, joined-each}
use Rattle.event_log.proofs.KeptEvents.{few}
use Rattle.event_log.proofs.joined_receives.joined_events.Goals as goal

pub joined_receives-requires-clause-inside : goal.joined_receives-requires-clause-inside
joined_receives-requires-clause-inside c = subst (λ (es : List Event). AreParts (length es) c.args.parts.now)
    (sym c.as_slice.ensures.value) c.requires.inside

pub joined_receives-requires-clause-few : goal.joined_receives-requires-clause-few
joined_receives-requires-clause-few c =
    let firsts = map (λ (part : List ℕ). slice_index part 0) c.args.parts.now in
    let n = length c.args.events.items in
    let long = length-map c.args.parts.now (λ (part : List ℕ). slice_index part 0) in
    let all = few firsts c.requires.rising n (length firsts) refl (firsts-inside n c.args.parts.now c.requires.inside) in
    let most = c.requires.few in
    omega (arith, long, all, most)

pub kept_at-kept-requires-clause-inside : goal.kept_at-kept-requires-clause-inside
kept_at-kept-requires-clause-inside c =
    let n = length c.args.events.items in
    subst (λ (xs : List ℕ). (k : ℕ) → k < length xs → slice_index xs k < n)
    (sym (c.deref.ensures.value ∙ c.in_ok-heads.ensures)) (firsts-inside n c.args.parts.now c.requires.inside)

pub returns : goal.returns
returns c =
    let events = c.args.events.items in
    let places = c.args.places.now in
    let parts = c.args.parts.now in
    let kept = c.kept_at-kept.result.items in
    joined-each events kept c.in_ok-left.left.items c.receiving.result.items places parts c.in_ok-receives.receives.items
    (c.kept_at-kept.ensures ∙ ap (map (slice_get events)) (c.deref.ensures.value ∙ c.in_ok-heads.ensures))
    c.requires.inside
    (c.in_ok-left.ensures ∙ ap (λ (es : List Event). map (left_event places) (map seen es)) c.shrink_to_fit.ensures.items)
    (c.in_ok-receives.ensures ∙ ap (λ (es : List Event). joined_from es places 0 parts) c.as_slice.ensures.value)
    c.receiving.ensures
