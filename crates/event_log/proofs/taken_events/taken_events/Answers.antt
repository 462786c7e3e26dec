use Rattle.std.proofs.Common.{ℕ, ◌≡◌, ◌∙◌, ◌<◌, ◌⊎◌, Bool, true, false, List, Option, Some, None, IfOk, length, refl, sym, ap, subst, arith}
use Rattle.std.specs.Prelude.{IfErr, MatchBool, ⊤}
use Rattle.std.proofs.lemmas.Result.{err_from_is_err_and}
use Rattle.event_log.specs.TakenEvents.{AreLeftBy, AreTaken, IsEmptied, IsUnmergedOf, kept_count}
use Rattle.event_log.specs.Naming.{is_memory}
use Rattle.event_log.proofs.LeftEvents.{few-left, left-long, processors-left}
use Rattle.event_log.proofs.Outcomes.{err-weaker, ok-both}
use Rattle.event_log.proofs.TakenEvents.{kept-places, left-taken, merged-parts, merged-some, merged-taken, merged-within, none-taken, parts-within, times-refused}
use Rattle.event_log.proofs.UnmadeLogs.{few-events, processors-events, some-events}
use Rattle.event_log.proofs.taken_events.taken_events.Goals as goal

pub returns-then-not-drop-clause-taken : goal.returns-then-not-drop-clause-taken
returns-then-not-drop-clause-taken c =
    let log = c.args.log in
    let events = log.events.items in
    let slice = events in
    let at = c.all.result in
    let r = c.merged_in-then-not-drop.result in
    let are : AreLeftBy false events slice at = (refl, c.all.ensures) in
    let taken : IfOk r (λ t. AreTaken false true events c.args.clock.now t.events.items (Some t.places.items) t.parts) =
    ok-both r _ _ _ (λ t m n. merged-taken false events slice t.events.items c.args.clock.now at t.places.items
    t.parts are (some-events log c.requires.sound) m) c.merged_in-then-not-drop.ensures.merged c.merged_in-then-not-drop.ensures.merged in
    subst (λ (d : Bool). IfOk r (λ t. AreTaken d c.args.merge events c.args.clock.now t.events.items (Some t.places.items) t.parts))
    (sym c.if-not-drop.true)
    (subst (λ (j : Bool). IfOk r (λ t. AreTaken false j events c.args.clock.now t.events.items (Some t.places.items) t.parts))
    (sym (c.requires.asked c.if-not-drop.true)) taken)

pub returns-then-not-drop-clause-kept : goal.returns-then-not-drop-clause-kept
returns-then-not-drop-clause-kept c =
    let log = c.args.log in
    let events = log.events.items in
    let r = c.merged_in-then-not-drop.result in
    let kept : IfOk r (λ t. t.kept ≡ kept_count false events) =
    ok-both r _ _ _ (λ t k n. k) c.merged_in-then-not-drop.ensures.kept c.merged_in-then-not-drop.ensures.kept in
    subst (λ (d : Bool). IfOk r (λ t. t.kept ≡ kept_count d events)) (sym c.if-not-drop.true) kept

pub returns-then-not-drop-clause-within : goal.returns-then-not-drop-clause-within
returns-then-not-drop-clause-within c =
    let log = c.args.log in
    let events = log.events.items in
    let slice = events in
    let at = c.all.result in
    let r = c.merged_in-then-not-drop.result in
    let are : AreLeftBy false events slice at = (refl, c.all.ensures) in
    ok-both r _ _ _ (λ t m n k l.
    let b = merged-within slice t.events.items c.args.clock.now at t.places.items t.parts m
    (length events) (kept-places false events slice at are) k l in
    let few = few-events log c.requires.sound in
    omega (arith, b, few)) c.merged_in-then-not-drop.ensures.merged c.merged_in-then-not-drop.ensures.merged

pub returns-then-not-drop-clause-parts : goal.returns-then-not-drop-clause-parts
returns-then-not-drop-clause-parts c =
    let log = c.args.log in
    let events = log.events.items in
    let slice = events in
    let at = c.all.result in
    let r = c.merged_in-then-not-drop.result in
    let are : AreLeftBy false events slice at = (refl, c.all.ensures) in
    ok-both r _ _ _ (λ t m n. parts-within t.parts (length events)
    (merged-parts slice t.events.items c.args.clock.now at t.places.items t.parts m (length events)
    (kept-places false events slice at are))) c.merged_in-then-not-drop.ensures.merged
    c.merged_in-then-not-drop.ensures.merged

pub returns-then-not-drop-clause-some : goal.returns-then-not-drop-clause-some
returns-then-not-drop-clause-some c =
    let log = c.args.log in
    let events = log.events.items in
    let slice = events in
    let at = c.all.result in
    let r = c.merged_in-then-not-drop.result in
    let are : AreLeftBy false events slice at = (refl, c.all.ensures) in
    ok-both r _ _ _ (λ t m n. merged-some slice t.events.items c.args.clock.now at t.places.items t.parts m
    (length events) (kept-places false events slice at are)) c.merged_in-then-not-drop.ensures.merged
    c.merged_in-then-not-drop.ensures.merged

pub returns-then-not-drop-clause-refused : goal.returns-then-not-drop-clause-refused
returns-then-not-drop-clause-refused c =
    let log = c.args.log in
    let events = log.events.items in
    let slice = events in
    let at = c.all.result in
    let r = c.merged_in-then-not-drop.result in
    let are : AreLeftBy false events slice at = (refl, c.all.ensures) in
    let refused : IfErr r
    (λ why. MatchBool (is_memory why) ⊤ (IsEmptied false events why ⊎ IsUnmergedOf false true events c.args.clock.now why)) =
    err-weaker r _ _ (times-refused false events slice c.args.clock.now at are (some-events log c.requires.sound))
    c.merged_in-then-not-drop.ensures.refused in
    subst (λ (d : Bool). IfErr r (λ why. MatchBool
    (is_memory why) ⊤ (IsEmptied d events why ⊎ IsUnmergedOf d c.args.merge events c.args.clock.now why))) (sym c.if-not-drop.true)
    (subst (λ (j : Bool). IfErr r (λ why. MatchBool (is_memory why) ⊤ (IsEmptied false events why
    ⊎ IsUnmergedOf false j events c.args.clock.now why))) (sym (c.requires.asked c.if-not-drop.true)) refused)

pub returns-in_err-kept-clause-refused : goal.returns-in_err-kept-clause-refused
returns-in_err-kept-clause-refused c =
    let p = err_from_is_err_and c.from_residual.result c.from_residual.ensures.1 in
    let events = c.args.log.events.items in
    let why = c.in_err-kept.field-0.0 in
    rw (p.1, p.2) (subst (λ (d : Bool). MatchBool (is_memory why) ⊤
    (IsEmptied d events why ⊎ IsUnmergedOf d c.args.merge events c.args.clock.now why)) (sym c.if-not-drop.false)
    (none-taken c.args.merge events c.args.clock.now why c.in_err-kept.ensures.refused))

pub returns-then-not-merge-clause-taken : goal.returns-then-not-merge-clause-taken
returns-then-not-merge-clause-taken c =
    let events = c.args.log.events.items in
    let kept = c.in_ok-kept.kept in
    rw (c.unmerged.ensures.events, c.unmerged.ensures.places, c.unmerged.ensures.parts)
    (subst (λ (d : Bool). AreTaken d c.args.merge events c.args.clock.now kept.events.items (Some kept.places.items) None)
    (sym c.if-not-drop.false)
    (subst (λ (j : Bool). AreTaken true j events c.args.clock.now kept.events.items (Some kept.places.items) None) (sym c.if-not-merge.true)
    (left-taken events kept.events.items kept.places.items c.args.clock.now c.in_ok-kept.ensures.left c.in_ok-kept.ensures.some)))

pub returns-then-not-merge-clause-kept : goal.returns-then-not-merge-clause-kept
returns-then-not-merge-clause-kept c =
    let events = c.args.log.events.items in
    let kept = c.in_ok-kept.kept in
    let left : length kept.events.items ≡ kept_count true events =
    left-long events kept.events.items kept.places.items c.in_ok-kept.ensures.left
    ∙ ap (λ (ps : List ℕ). length ps) c.in_ok-kept.ensures.left.places_are in
    subst (λ (d : Bool). c.unmerged.result.kept ≡ kept_count d events) (sym c.if-not-drop.false) (c.unmerged.ensures.kept ∙ left)

pub returns-then-not-merge-clause-within : goal.returns-then-not-merge-clause-within
returns-then-not-merge-clause-within c =
    let log = c.args.log in
    rw c.unmerged.ensures.places (λ k l. let b = c.in_ok-kept.ensures.within k l in
    let few = few-events log c.requires.sound in omega (arith, b, few))

pub returns-then-not-merge-clause-parts : goal.returns-then-not-merge-clause-parts
returns-then-not-merge-clause-parts c = rw c.unmerged.ensures.parts tt

pub returns-then-not-merge-clause-some : goal.returns-then-not-merge-clause-some
returns-then-not-merge-clause-some c = rw c.unmerged.ensures.places c.in_ok-kept.ensures.some

pub returns-clause-taken : goal.returns-clause-taken
returns-clause-taken c =
    let log = c.args.log in
    let events = log.events.items in
    let slice = c.in_ok-kept.kept.events.items in
    let at = c.of.result in
    let r = c.merged_in-3.result in
    let are : AreLeftBy true events slice at =
    subst (λ (o : Option (List ℕ)). AreLeftBy true events slice o) (sym c.of.ensures) c.in_ok-kept.ensures.left in
    let some : 0 < length slice =
    subst (λ n. 0 < n) (sym (left-long events slice c.in_ok-kept.kept.places.items c.in_ok-kept.ensures.left)) c.in_ok-kept.ensures.some in
    let taken : IfOk r (λ t. AreTaken true true events c.args.clock.now t.events.items (Some t.places.items) t.parts) =
    ok-both r _ _ _ (λ t m n. merged-taken true events slice t.events.items c.args.clock.now at t.places.items t.parts are some m)
    c.merged_in-3.ensures.merged c.merged_in-3.ensures.merged in
    subst (λ (d : Bool). IfOk r (λ t. AreTaken d c.args.merge events c.args.clock.now t.events.items (Some t.places.items) t.parts))
    (sym c.if-not-drop.false)
    (subst (λ (j : Bool). IfOk r (λ t. AreTaken true j events c.args.clock.now t.events.items (Some t.places.items) t.parts))
    (sym c.if-not-merge.false) taken)

pub returns-clause-kept : goal.returns-clause-kept
returns-clause-kept c =
    let log = c.args.log in
    let events = log.events.items in
    let kept = c.in_ok-kept.kept in
    let r = c.merged_in-3.result in
    let left : length kept.events.items ≡ kept_count true events =
    left-long events kept.events.items kept.places.items c.in_ok-kept.ensures.left
    ∙ ap (λ (ps : List ℕ). length ps) c.in_ok-kept.ensures.left.places_are in
    let kept : IfOk r (λ t. t.kept ≡ kept_count true events) =
    ok-both r _ _ _ (λ t k n. k ∙ left) c.merged_in-3.ensures.kept c.merged_in-3.ensures.kept in
    subst (λ (d : Bool). IfOk r (λ t. t.kept ≡ kept_count d events)) (sym c.if-not-drop.false) kept

pub returns-clause-within : goal.returns-clause-within
returns-clause-within c =
    let log = c.args.log in
    let events = log.events.items in
    let slice = c.in_ok-kept.kept.events.items in
    let at = c.of.result in
    let r = c.merged_in-3.result in
    let are : AreLeftBy true events slice at =
    subst (λ (o : Option (List ℕ)). AreLeftBy true events slice o) (sym c.of.ensures) c.in_ok-kept.ensures.left in
    ok-both r _ _ _ (λ t m n k l.
    let b = merged-within slice t.events.items c.args.clock.now at t.places.items t.parts m
    (length events) (kept-places true events slice at are) k l in
    let few = few-events log c.requires.sound in
    omega (arith, b, few)) c.merged_in-3.ensures.merged c.merged_in-3.ensures.merged

pub returns-clause-parts : goal.returns-clause-parts
returns-clause-parts c =
    let log = c.args.log in
    let events = log.events.items in
    let slice = c.in_ok-kept.kept.events.items in
    let at = c.of.result in
    let r = c.merged_in-3.result in
    let are : AreLeftBy true events slice at =
    subst (λ (o : Option (List ℕ)). AreLeftBy true events slice o) (sym c.of.ensures) c.in_ok-kept.ensures.left in
    ok-both r _ _ _ (λ t m n. parts-within t.parts (length events)
    (merged-parts slice t.events.items c.args.clock.now at t.places.items t.parts m (length events)
    (kept-places true events slice at are))) c.merged_in-3.ensures.merged c.merged_in-3.ensures.merged

pub returns-clause-some : goal.returns-clause-some
returns-clause-some c =
    let log = c.args.log in
    let events = log.events.items in
    let slice = c.in_ok-kept.kept.events.items in
    let at = c.of.result in
    let r = c.merged_in-3.result in
    let are : AreLeftBy true events slice at =
    subst (λ (o : Option (List ℕ)). AreLeftBy true events slice o) (sym c.of.ensures) c.in_ok-kept.ensures.left in
    ok-both r _ _ _ (λ t m n. merged-some slice t.events.items c.args.clock.now at t.places.items t.parts m
    (length events) (kept-places true events slice at are)) c.merged_in-3.ensures.merged
    c.merged_in-3.ensures.merged

pub returns-clause-refused : goal.returns-clause-refused
returns-clause-refused c =
    let log = c.args.log in
    let events = log.events.items in
    let slice = c.in_ok-kept.kept.events.items in
    let at = c.of.result in
    let r = c.merged_in-3.result in
    let are : AreLeftBy true events slice at =
    subst (λ (o : Option (List ℕ)). AreLeftBy true events slice o) (sym c.of.ensures) c.in_ok-kept.ensures.left in
    let some : 0 < length slice =
    subst (λ n. 0 < n) (sym (left-long events slice c.in_ok-kept.kept.places.items c.in_ok-kept.ensures.left)) c.in_ok-kept.ensures.some in
    let refused : IfErr r
    (λ why. MatchBool (is_memory why) ⊤ (IsEmptied true events why ⊎ IsUnmergedOf true true events c.args.clock.now why)) =
    err-weaker r _ _ (times-refused true events slice c.args.clock.now at are some) c.merged_in-3.ensures.refused in
    subst (λ (d : Bool). IfErr r (λ why. MatchBool
    (is_memory why) ⊤ (IsEmptied d events why ⊎ IsUnmergedOf d c.args.merge events c.args.clock.now why))) (sym c.if-not-drop.false)
    (subst (λ (j : Bool). IfErr r (λ why. MatchBool (is_memory why) ⊤
    (IsEmptied true events why ⊎ IsUnmergedOf true j events c.args.clock.now why))) (sym c.if-not-merge.false) refused)

pub merged_in-requires-clause-some : goal.merged_in-requires-clause-some
merged_in-requires-clause-some c = some-events c.args.log c.requires.sound

pub merged_in-requires-clause-few : goal.merged_in-requires-clause-few
merged_in-requires-clause-few c = few-events c.args.log c.requires.sound

pub merged_in-requires-clause-processors : goal.merged_in-requires-clause-processors
merged_in-requires-clause-processors c = processors-events c.args.log c.requires.sound

pub kept_events-requires : goal.kept_events-requires
kept_events-requires c = record { few = few-events c.args.log c.requires.sound }

pub merged_in-requires-2-clause-some : goal.merged_in-requires-2-clause-some
merged_in-requires-2-clause-some c =
    let kept = c.in_ok-kept.kept in
    subst (λ (n : ℕ). 0 < n) (sym (left-long c.args.log.events.items kept.events.items kept.places.items c.in_ok-kept.ensures.left))
    c.in_ok-kept.ensures.some

pub merged_in-requires-2-clause-few : goal.merged_in-requires-2-clause-few
merged_in-requires-2-clause-few c =
    let kept = c.in_ok-kept.kept in
    few-left c.args.log c.requires.sound kept.events.items kept.places.items c.in_ok-kept.ensures.left

pub merged_in-requires-2-clause-processors : goal.merged_in-requires-2-clause-processors
merged_in-requires-2-clause-processors c =
    let kept = c.in_ok-kept.kept in
    processors-left c.args.log c.requires.sound kept.events.items kept.places.items c.in_ok-kept.ensures.left
