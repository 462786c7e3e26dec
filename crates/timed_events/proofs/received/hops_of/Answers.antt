use Rattle.std.proofs.Common.{◌∙◌, ◌≡◌, ◌<◌, ◌+◌, ◌∷◌, ◌++◌, [], ap, length, subst, sym, arith, append-nil}
use Rattle.std.specs.List.{flat_map, range_with_len}
use Rattle.std.proofs.lemmas.Grind.{flat_map-append}
use Rattle.std.proofs.lemmas.List.FromFn.{get_or-range_with_len, length-range_with_len}
use Rattle.std.proofs.lemmas.Result.{err_from_is_err_and}
use Rattle.timed_events.specs.Received.{hops_at}
use Rattle.timed_events.proofs.CausalWalks.{range-more}
use Rattle.timed_events.proofs.SomeHops.{some-piece}
use Rattle.timed_events.proofs.received.hops_of.Goals as goal

pub loop-place-preserved : goal.loop-place-preserved
loop-place-preserved c = c.in_ok-push_hops.ensures.more
    ∙ ap (λ xs. xs ++ hops_at c.args.events.now c.loop-place.place) c.loop-place.invariant ∙ ap (λ xs. flat_map (hops_at c.args.events.now)
    (range_with_len 0 c.loop-place.place) ++ xs) (sym (append-nil (hops_at c.args.events.now c.loop-place.place)))
    ∙ sym (flat_map-append (hops_at c.args.events.now) (range_with_len 0 c.loop-place.place) (c.loop-place.place ∷ []))
    ∙ sym (ap (flat_map (hops_at c.args.events.now)) (range-more 0 c.loop-place.place c.loop-place.place (omega arith)))

pub returns-in_err-push_hops-clause-more : goal.returns-in_err-push_hops-clause-more
returns-in_err-push_hops-clause-more c =
    let count = length c.args.events.now in
    let from : 0 + c.loop-place.place ≡ c.loop-place.place = omega arith in
    let at = get_or-range_with_len 0 count c.loop-place.place 0 c.loop-place-test.true ∙ from in
    let here = subst (λ i. 0 < length (hops_at c.args.events.now i)) (sym at) c.in_err-push_hops.ensures.some in
    let inside : c.loop-place.place < length (range_with_len 0 count) =
    subst (λ k. c.loop-place.place < k) (sym (length-range_with_len 0 count)) c.loop-place-test.true in
    let p = err_from_is_err_and c.from_residual.result c.from_residual.ensures.1 in
    rw p.1 (some-piece (hops_at c.args.events.now) (range_with_len 0 count) c.loop-place.place 0 inside here)
