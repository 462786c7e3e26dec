use Rattle.std.proofs.Common.{ℕ, ◌≡◌, ◌∙◌, ◌<◌, ◌++◌, ◌∷◌, [], Bool, List, cond, length, map, slice_index, ap, ap₂, sym, subst, arith}
use Rattle.std.specs.List.{range_with_len}
use Rattle.event_log.specs.LostSends.{left_before}
use Rattle.event_log.proofs.LostSends.{left-few, left-more, left-start, left-within, new-places-are, ranks-more}
use Rattle.event_log.proofs.lost_sends.places_left.Goals as goal

pub loop-place-init : goal.loop-place-init
loop-place-init c = record { old = c.in_ok-old.ensures.items ∙ left-start c.args.events.now; new = c.in_ok-new.ensures.items }

pub overflow_cast-len : goal.overflow_cast-len
overflow_cast-len c =
    let few = left-few c.args.events.now c.loop-place.place in
    let same = ap (λ (xs : List ℕ). length xs) c.loop-place.invariant.old in
    omega (arith, few, same)

pub loop-place-preserved : goal.loop-place-preserved
loop-place-preserved c =
    let events = c.args.events.now in
    let place = c.loop-place.place in
    let long : c.len.result ≡ length c.loop-place.old.items =
    (let ok = c.loop-place.old.ok in let len = c.len.ensures in omega (arith, ok, len)) in
    record {
      old = c.in_ok-push_left.ensures ∙ ap₂ (λ (t : Bool) (xs : List ℕ). cond t xs (xs ++ place ∷ []))
          c.is_lost.ensures c.loop-place.invariant.old ∙ sym (left-more events place);
      new = c.in_ok-push.ensures.items ∙ ap₂ (λ (xs : List ℕ) (n : ℕ). xs ++ n ∷ []) c.loop-place.invariant.new
          (long ∙ ap (λ (xs : List ℕ). length xs) c.loop-place.invariant.old) ∙ sym (ranks-more events place);
    }

pub returns : goal.returns
returns c =
    let events = c.args.events.now in
    let place = c.loop-place.place in
    let all : place
    ≡ length events = (let end = c.loop-place.auto.place-end in let past = c.loop-place-test.false in omega (arith, end, past)) in
    let old = c.loop-place.invariant.old in
    record {
      old = old ∙ ap (left_before events) all;
      new = c.loop-place.invariant.new ∙ ap (λ (n : ℕ). map (λ (s : ℕ). length (left_before events s)) (range_with_len 0 n)) all
          ∙ new-places-are events;
      within = λ k l.
          let b : slice_index (left_before events place) k
          < place = left-within events place k (subst (λ (xs : List ℕ). k < length xs) old l) in
          subst (λ (n : ℕ). slice_index c.loop-place.old.items k < n) all (subst (λ (xs : List ℕ). slice_index xs k < place) (sym old) b);
    }
