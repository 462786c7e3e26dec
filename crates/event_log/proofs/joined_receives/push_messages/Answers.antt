use Rattle.std.proofs.Common.{◌≡◌, ◌∙◌, ◌++◌, [], ℕ, List, Option, length, map, refl, sym, ap}
use Rattle.std.specs.Option.{option_map_or}
use Rattle.std.proofs.lemmas.List.{take_all}
use Rattle.std.proofs.lemmas.Option.{slice_get_read}
use Rattle.timed_events.specs.declared.events.Event.{Event}
use Rattle.timed_events.specs.Checks.{messages_at, received_in}
use Rattle.event_log.specs.LostSends.{left_message}
use Rattle.event_log.proofs.joined_receives.push_messages.Goals as goal

pub returns : goal.returns
returns c =
    let events = c.args.events.now in
    let e = c.index-events-place in
    let at : c.messages-message-items.result.now ≡ messages_at events c.args.place =
    c.messages-message-items.ensures ∙ ap (λ (x : Event). received_in x.act) (sym e.is)
    ∙ sym (ap (λ (o : Option Event). option_map_or (λ (x : Event). received_in x.act) o [])
    (slice_get_read events (length events) c.args.place e.result refl c.requires e.is)) in
    c.loop-message.invariant
    ∙ ap (λ (xs : List (Option ℕ)). c.args.messages.now.items ++ map (left_message c.args.places.now) xs)
    (take_all c.loop-message.message-index c.messages-message-items.result.now c.loop-message-test.false ∙ at)
