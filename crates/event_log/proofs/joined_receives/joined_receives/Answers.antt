use Rattle.std.proofs.Common.{ℕ, ◌∙◌, ◌++◌, ◌<◌, List, length, take, ap, sym, subst, arith}
use Rattle.std.specs.Prelude.{slice_index}
use Rattle.event_log.specs.declared.joined_receives.JoinedReceive.{JoinedReceive}
use Rattle.event_log.specs.Merges.{joined_from, joined_receive}
use Rattle.event_log.proofs.JoinedEvents.{joined-step}
use Rattle.event_log.proofs.joined_receives.joined_receives.Goals as goal

pub push_joined-requires : goal.push_joined-requires
push_joined-requires c =
    let inside : c.loop-k.k < length c.args.parts.now =
    (let l = c.loop-k-test.true in let n = c.len-k-end.ensures in omega (arith, l, n)) in
    subst (λ (part : List ℕ). (k : ℕ) → k < length part → slice_index part k < length c.args.events.now)
    (sym c.part.ensures) (c.requires.inside c.loop-k.k inside).inside

pub loop-k-preserved : goal.loop-k-preserved
loop-k-preserved c =
    let events = c.args.events.now in
    let places = c.args.places.now in
    let k = c.loop-k.k in
    c.in_ok-push_joined.ensures
    ∙ ap (λ (rs : List JoinedReceive). rs ++ joined_receive events places k c.part.result.now) c.loop-k.invariant
    ∙ ap (λ (part : List ℕ). joined_from events places 0 (take k c.args.parts.now) ++ joined_receive events places k part) c.part.ensures
    ∙ sym (joined-step events places c.args.parts.now k (let l = c.loop-k-test.true in let n = c.len-k-end.ensures in omega (arith, l, n)))
