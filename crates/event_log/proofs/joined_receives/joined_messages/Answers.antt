use Rattle.std.proofs.Common.{ℕ, ◌∙◌, ◌++◌, [], List, Option, map, take, ap, sym}
use Rattle.std.specs.Prelude.{slice_index}
use Rattle.std.specs.List.{flat_map}
use Rattle.std.proofs.lemmas.List.{flat_map_more, take_more}
use Rattle.timed_events.specs.Checks.{messages_at}
use Rattle.event_log.specs.LostSends.{left_message}
use Rattle.event_log.proofs.joined_receives.joined_messages.Goals as goal

pub loop-place-preserved : goal.loop-place-preserved
loop-place-preserved c =
    let part = c.args.part.now in
    let k = c.loop-place.place-index in
    let f = λ (p : ℕ). map (left_message c.args.places.now) (messages_at c.args.events.now p) in
    c.in_ok-push_messages.ensures ∙ ap (λ (xs : List (Option ℕ)). xs ++ f (slice_index part k)) c.loop-place.invariant
    ∙ flat_map_more f [] (take k part) (slice_index part k) ∙ ap (flat_map f) (sym (take_more part k 0 c.loop-place-test.true))
