use Rattle.std.proofs.Common.{ℕ, ◌≡◌, ◌+◌, ◌-◌, ◌∙◌, ◌<◌, ◌≤◌, Bool, true, false, cond, [], List, Option, drop, length, refl, ap, sym, subst}
use Rattle.std.specs.Prelude.{nat_lt, slice_index}
use Rattle.std.specs.Option.{option_map_or}
use Rattle.std.proofs.lemmas.Bool.{le-ltb, lt-ltb}
use Rattle.std.proofs.lemmas.List.{at_drop_all, at_drop_more}
use Rattle.std.proofs.lemmas.Option.{slice_get_read}
use Rattle.timed_events.specs.declared.events.Event.{Event}
use Rattle.timed_events.specs.Checks.{messages_at, received_in}
use Rattle.event_log.specs.LogPlaces.{source_of}
use Rattle.event_log.proofs.log_places.source_of.Goals as goal

-- the next event of a part has the message, or the events behind it have it
source-next : (events : List Event) (part : List ℕ) (k m : ℕ) (t : Bool) → k < length part
    → nat_lt m (length (messages_at events (slice_index part k))) ≡ t → (let next : ℕ × ℕ = cond t (slice_index part k, m) (source_of events
    (drop (k + 1) part) (m - length (messages_at events (slice_index part k)))) in source_of events (drop k part) m ≡ next)
source-next events part k m t l e = at_drop_more (λ (ps : List ℕ). source_of events ps m) part k 0 l ∙ ap (λ (b : Bool). let next : ℕ × ℕ =
    cond b (slice_index part k, m) (source_of events (drop (k + 1) part) (m - length (messages_at events (slice_index part k)))) in next) e

pub returns-then-message-count : goal.returns-then-message-count
returns-then-message-count c =
    let events = c.args.events.now in
    let part = c.args.part.now in
    let k = c.loop-place.place-index in
    let m = c.loop-place.message in
    let l = c.loop-place-test.true in
    let e = c.index-events-place in
    let at : c.messages-count.result.now ≡ messages_at events (slice_index part k) =
    c.messages-count.ensures ∙ ap (λ (x : Event). received_in x.act) (sym e.is)
    ∙ sym (ap (λ (o : Option Event). option_map_or (λ (x : Event). received_in x.act) o [])
    (slice_get_read events (length events) (slice_index part k) e.result refl (c.requires k l) e.is)) in
    let has = lt-ltb m (length (messages_at events (slice_index part k)))
    (subst (λ (ms : List (Option ℕ)). m < length ms) at c.if-message-count.true) in
    sym (source-next events part k m true l has) ∙ c.loop-place.invariant

pub loop-place-preserved : goal.loop-place-preserved
loop-place-preserved c =
    let events = c.args.events.now in
    let part = c.args.part.now in
    let k = c.loop-place.place-index in
    let m = c.loop-place.message in
    let l = c.loop-place-test.true in
    let e = c.index-events-place in
    let at : c.messages-count.result.now ≡ messages_at events (slice_index part k) =
    c.messages-count.ensures ∙ ap (λ (x : Event). received_in x.act) (sym e.is)
    ∙ sym (ap (λ (o : Option Event). option_map_or (λ (x : Event). received_in x.act) o [])
    (slice_get_read events (length events) (slice_index part k) e.result refl (c.requires k l) e.is)) in
    let lacks = le-ltb m (length (messages_at events (slice_index part k)))
    (subst (λ (ms : List (Option ℕ)). length ms ≤ m) at c.if-message-count.false) in
    ap (λ (ms : List (Option ℕ)). source_of events (drop (k + 1) part) (m - length ms)) at
    ∙ sym (source-next events part k m false l lacks) ∙ c.loop-place.invariant

pub returns : goal.returns
returns c = sym (at_drop_all (λ (ps : List ℕ). source_of c.args.events.now ps c.loop-place.message)
    c.args.part.now c.loop-place.place-index c.loop-place-test.false) ∙ c.loop-place.invariant
