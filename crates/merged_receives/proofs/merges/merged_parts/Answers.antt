use Rattle.std.proofs.Common.{ℕ, ◌≡◌, ◌∙◌, ◌<◌, List, length, sym, ap, ap₂, subst, arith}
use Rattle.timed_events.specs.Causes.{IsTimeOrder}
use Rattle.timed_events.specs.Times.{time_ticks}
use Rattle.timed_events.proofs.SortedEvents.{places-inside}
use Rattle.timed_events.proofs.TimeOrders.{inside-order}
use Rattle.merged_receives.specs.Merges.{parts_of}
use Rattle.merged_receives.specs.MergeWalks.{AreHeadsOf, AreParts, AreRising, own_parts, places_before}
use Rattle.merged_receives.proofs.OwnParts.{own-inside, parts-are, places-staying, rising-ticks, some-stays}
use Rattle.merged_receives.proofs.merges.merged_parts.Goals as goal

pub heads_of-requires-clause-rising : goal.heads_of-requires-clause-rising
heads_of-requires-clause-rising c =
    let events = c.args.events.now in
    let order = c.deref-2.result.now in
    let o = subst (λ (xs : List ℕ). IsTimeOrder events xs) (sym c.deref-2.ensures.value) c.in_ok-order.ensures in
    subst (λ (ticks : List ℕ). AreRising ticks order)
    (sym (c.deref.ensures.value ∙ c.in_ok-ticks.ensures)) (rising-ticks events c.args.clock.now order c.requires.width o)

pub parts_of-requires-clause-few : goal.parts_of-requires-clause-few
parts_of-requires-clause-few c =
    let events = c.args.events.now in
    let all = (places-inside (length events) c.in_ok-order.order.items c.in_ok-order.ensures.places).0 in
    let same = ap (λ (xs : List ℕ). length xs) c.deref-4.ensures.value in
    let few = c.requires.few in
    omega (arith, all, same, few)

pub parts_of-requires-clause-order : goal.parts_of-requires-clause-order
parts_of-requires-clause-order c = λ k l.
    let events = c.args.events.now in
    let o = subst (λ (xs : List ℕ). IsTimeOrder events xs) (sym c.deref-4.ensures.value) c.in_ok-order.ensures in
    let inside = inside-order events c.deref-4.result.now k o l in
    let long = c.in_ok-heads.ensures.long in
    let same = ap (λ (xs : List ℕ). length xs) c.deref-3.ensures.value in
    omega (arith, inside, long, same)

pub returns-clause-merged : goal.returns-clause-merged
returns-clause-merged c =
    let events = c.args.events.now in
    let ticks = time_ticks events c.args.clock.now in
    let heads = c.in_ok-heads.heads.items in
    let order = c.in_ok-order.order.items in
    let w : AreHeadsOf events ticks heads = subst (λ (ts : List ℕ). AreHeadsOf events ts heads)
    (c.deref.ensures.value ∙ c.in_ok-ticks.ensures) c.in_ok-heads.ensures in
    record {
      passed = c.in_ok-span.ensures.refused;
      order = order;
      in_time = c.in_ok-order.ensures;
      parts_are = c.in_ok-parts.ensures ∙ ap₂ (λ (hs os : List ℕ). own_parts hs os) c.deref-3.ensures.value c.deref-4.ensures.value
          ∙ parts-are events ticks heads w order c.in_ok-order.ensures;
      places_are = c.in_ok-places.ensures ∙ ap places_before c.deref-5.ensures.value ∙ places-staying events ticks heads w;
    }

pub returns-clause-inside : goal.returns-clause-inside
returns-clause-inside c =
    let events = c.args.events.now in
    let heads = c.in_ok-heads.heads.items in
    let order = c.in_ok-order.order.items in
    subst (λ (ps : List (List ℕ)). AreParts (length events) ps)
    (sym (c.in_ok-parts.ensures ∙ ap₂ (λ (hs os : List ℕ). own_parts hs os) c.deref-3.ensures.value c.deref-4.ensures.value))
    (own-inside (length events) heads order (λ k l. inside-order events order k c.in_ok-order.ensures l))

pub returns-clause-some : goal.returns-clause-some
returns-clause-some c =
    let events = c.args.events.now in
    let ticks = time_ticks events c.args.clock.now in
    let heads = c.in_ok-heads.heads.items in
    let order = c.in_ok-order.order.items in
    let w : AreHeadsOf events ticks heads = subst (λ (ts : List ℕ). AreHeadsOf events ts heads)
    (c.deref.ensures.value ∙ c.in_ok-ticks.ensures) c.in_ok-heads.ensures in
    let are : c.in_ok-parts.parts ≡ parts_of events ticks order =
    c.in_ok-parts.ensures ∙ ap₂ (λ (hs os : List ℕ). own_parts hs os) c.deref-3.ensures.value c.deref-4.ensures.value
    ∙ parts-are events ticks heads w order c.in_ok-order.ensures in
    subst (λ (ps : List (List ℕ)). 0 < length ps) (sym are) (some-stays events ticks heads order w c.requires.some)
