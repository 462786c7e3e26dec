-- More elements after a list leave the ranges within the list as they were.
use Rattle.std.proofs.Common.{ℕ, ◌≡◌, ◌∙◌, ◌+◌, ◌-◌, ◌≤◌, List, [], ◌∷◌, ◌++◌, Option, length, map, take, drop, refl}
use Rattle.std.proofs.Common.{ap, arith, length-append}
use Rattle.std.specs.Prelude.{slice_range}
use Rattle.std.specs.List.{All}
use Rattle.std.proofs.lemmas.List.{drop_at, drop-append-le, length-drop, map_push, take_all, take-append-le}
use Rattle.std.proofs.lemmas.List.Elements.{All-head, All-push, All-tail, All-weaker}
use Rattle.event_log.specs.declared.packed_events.PackedEvent.{PackedEvent}
use Rattle.event_log.specs.declared.packed_events.PackedAct.{PackedAct}
use Rattle.event_log.specs.declared.packed_events.PackedAct.TheVariants as packed
use Rattle.event_log.specs.Events.{Seen, SeenAct, Receives}
use Rattle.event_log.specs.KeptEvents.{KeptAct, KeptEvent, names_of}
use Rattle.event_log.specs.KeptEvents as kept
use Rattle.event_log.specs.PackedEvents.{ActIsWithin, IsWithin, packed_act, packed_event}
use Rattle.event_log.specs.PackedEvents.{placed, placed_act, unpacked, unpacked_act}

abbrev kept_with : PackedEvent → KeptAct → KeptEvent
kept_with event act = record { time = event.time; processor = event.processor; act = act }

abbrev seen_with : PackedEvent → SeenAct → Seen
seen_with event act = record { time = event.time; processor = event.processor; act = act }

range-stays : {A : Type 0} (xs more : List A) (from to : ℕ) → from ≤ to → to ≤ length xs
    → slice_range (xs ++ more) from to ≡ slice_range xs from to
range-stays xs more from to order inside =
    let long = length-drop from xs in
    ap (take (to - from)) (drop-append-le from xs more (omega (arith, order, inside)))
    ∙ take-append-le (to - from) (drop from xs) more (omega (arith, long, order, inside))

unpacked_act-stays : (names more : List ℕ) (act : PackedAct) → ActIsWithin (length names) act
    → unpacked_act (names ++ more) act ≡ unpacked_act names act
unfolding ActIsWithin
unpacked_act-stays names more (packed.Send to) h = refl
unpacked_act-stays names more (packed.Receive from to) h =
    ap (λ (bytes : List ℕ). kept.Receive bytes) (range-stays names more from to (h.0) (h.1))

placed_act-stays : (messages more : List (Option ℕ)) (act : PackedAct) → ActIsWithin (length messages) act
    → placed_act (messages ++ more) act ≡ placed_act messages act
unfolding ActIsWithin
placed_act-stays messages more (packed.Send to) h = refl
placed_act-stays messages more (packed.Receive from to) h =
    ap (λ (places : List (Option ℕ)). Receives places) (range-stays messages more from to (h.0) (h.1))

map-same : {X Y : Type 0} (P : X → Type 0) (f g : X → Y) → ((x : X) → P x → f x ≡ g x) → (xs : List X) → All P xs
    → map f xs ≡ map g xs
map-same P f g same [] h = refl
map-same P f g same (x ∷ xs) h = rw (same x (All-head P x xs h), map-same P f g same xs (All-tail P x xs h)) refl

unpacked-stay : (names more : List ℕ) (events : List PackedEvent) → All (IsWithin (length names)) events
    → map (unpacked (names ++ more)) events ≡ map (unpacked names) events
unpacked-stay names more events h =
    map-same (IsWithin (length names)) (unpacked (names ++ more)) (unpacked names)
    (λ e w. ap (kept_with e) (unpacked_act-stays names more e.act w)) events h

pub placed-stay : (messages more : List (Option ℕ)) (events : List PackedEvent)
    → All (IsWithin (length messages)) events → map (placed (messages ++ more)) events ≡ map (placed messages) events
placed-stay messages more events h =
    map-same (IsWithin (length messages)) (placed (messages ++ more)) (placed messages)
    (λ e w. ap (seen_with e) (placed_act-stays messages more e.act w)) events h

act-later : (a b : ℕ) (act : PackedAct) → a ≤ b → ActIsWithin a act → ActIsWithin b act
unfolding ActIsWithin
act-later a b (packed.Send to) l h = tt
act-later a b (packed.Receive from to) l h = (h.0, let m = h.1 in omega (arith, m, l))

pub within-stay : {A : Type 0} (xs more : List A) (events : List PackedEvent)
    → All (IsWithin (length xs)) events → All (IsWithin (length (xs ++ more))) events
within-stay xs more events h =
    let a = length xs in
    let b = length (xs ++ more) in
    let long = length-append xs more in
    All-weaker (IsWithin a) (IsWithin b) (λ e w. act-later a b e.act (omega (arith, long)) w) events h

-- what was packed after the names is read back
new-act : (names : List ℕ) (act : KeptAct) → unpacked_act (names ++ names_of act) (packed_act (length names) act) ≡ act
new-act names (kept.Send to) = refl
new-act names (kept.Receive messages) =
    let own = length names + length messages - length names in
    let start = drop_at names messages (length names) refl in
    let whole = take_all own messages (omega arith) in
    ap (λ (bytes : List ℕ). kept.Receive (take own bytes)) start ∙ ap (λ (bytes : List ℕ). kept.Receive bytes) whole

new-within : (names : List ℕ) (act : KeptAct)
    → ActIsWithin (length (names ++ names_of act)) (packed_act (length names) act)
unfolding ActIsWithin
new-within names (kept.Send to) = tt
new-within names (kept.Receive messages) =
    (omega arith, let long = length-append names messages in omega (arith, long))

new-event : (names : List ℕ) (event : KeptEvent)
    → unpacked (names ++ names_of event.act) (packed_event (length names) event) ≡ event
new-event names event =
    ap (λ (act : KeptAct). record { time = event.time; processor = event.processor; act = act })
    (new-act names event.act)

-- one more event, whose names go after the others
pub pushed-within : (names : List ℕ) (events : List PackedEvent) (event : KeptEvent)
    → All (IsWithin (length names)) events
    → All (IsWithin (length (names ++ names_of event.act))) (events ++ packed_event (length names) event ∷ [])
pushed-within names events event h =
    All-push (IsWithin (length (names ++ names_of event.act))) events (packed_event (length names) event)
    (within-stay names (names_of event.act) events h) (new-within names event.act)

pub pushed : (names : List ℕ) (events : List PackedEvent) (event : KeptEvent) → All (IsWithin (length names)) events
    → map (unpacked (names ++ names_of event.act)) (events ++ packed_event (length names) event ∷ [])
    ≡ map (unpacked names) events ++ event ∷ []
pushed names events event h =
    let more = names_of event.act in
    rw (
      map_push (unpacked (names ++ more)) events (packed_event (length names) event),
      unpacked-stay names more events h,
      new-event names event,
    ) refl
