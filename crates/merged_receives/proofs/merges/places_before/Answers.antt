use Rattle.std.proofs.Common.{ℕ, ◌≡◌, ◌∙◌, ◌+◌, ◌++◌, ◌∷◌, [], List, cond, length, map, sym, ap, ap₂, arith}
use Rattle.std.specs.Prelude.{◌==◌, slice_index}
use Rattle.std.specs.List.{range_with_len}
use Rattle.merged_receives.specs.MergeWalks.{own_before}
use Rattle.merged_receives.proofs.OwnParts.{own-few, own-more, own-start, places-all, places-more}
use Rattle.merged_receives.proofs.merges.places_before.Goals as goal

pub loop-place-init : goal.loop-place-init
loop-place-init c = record { count = sym (own-start c.args.heads.now); places = c.in_ok-places.ensures.items }

pub counted-count-requires : goal.counted-count-requires
counted-count-requires c =
    let few = own-few c.args.heads.now c.loop-place.place in
    let count = c.loop-place.invariant.count in
    let below = c.loop-place-test.true in
    let all = c.requires in
    omega (arith, few, count, below, all)

pub loop-place-preserved : goal.loop-place-preserved
loop-place-preserved c =
    let heads = c.args.heads.now in
    let place = c.loop-place.place in
    let inv = c.loop-place.invariant in
    record {
      count = c.counted-count.ensures ∙ ap (λ n. n + cond (slice_index heads place == place) 1 0) inv.count ∙ sym (own-more heads place);
      places = c.in_ok-push.ensures.items ∙ ap₂ (λ (xs : List ℕ) (n : ℕ). xs ++ n ∷ []) inv.places inv.count
          ∙ sym (places-more heads place);
    }

pub returns : goal.returns
returns c =
    let heads = c.args.heads.now in
    let all : c.loop-place.place
    ≡ length heads = (let end = c.loop-place.auto.place-end in let past = c.loop-place-test.false in omega (arith, end, past)) in
    c.loop-place.invariant.places ∙ ap (λ n. map (λ s. length (own_before heads s)) (range_with_len 0 n)) all ∙ places-all heads
