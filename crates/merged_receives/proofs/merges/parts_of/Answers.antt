use Rattle.std.proofs.Common.{ℕ, ◌≡◌, ◌∙◌, List, length, take, ap, arith}
use Rattle.std.specs.Prelude.{slice_index}
use Rattle.std.specs.List.{sum}
use Rattle.std.proofs.lemmas.List.{with_items_is}
use Rattle.merged_receives.specs.HeadSizes.{ends_from, head_sizes}
use Rattle.merged_receives.specs.Pieces.{pieces}
use Rattle.merged_receives.proofs.HeadSizes.{laid-parts, sizes-long}
use Rattle.merged_receives.proofs.merges.parts_of.Goals as goal

pub places_by_head-requires-clause-long : goal.places_by_head-requires-clause-long
places_by_head-requires-clause-long c =
    c.deref_mut-2.ensures.len
    ∙ c.in_ok-sizes.sizes.ok.0
    ∙ ap (λ (ns : List ℕ). length ns) c.in_ok-sizes.ensures.sizes
    ∙ sizes-long c.args.heads.now c.args.order.now

pub places_by_head-requires-clause-begins : goal.places_by_head-requires-clause-begins
places_by_head-requires-clause-begins c = λ h l.
    let sizes = c.in_ok-sizes.sizes in
    let begins = c.put_begins.new.sizes in
    let are : c.deref_mut.result.now ≡ head_sizes c.args.heads.now c.args.order.now = c.deref_mut.ensures.value
    ∙ c.in_ok-sizes.ensures.sizes in
    let kept : length begins ≡ sizes.len = c.put_begins.auto.sizes ∙ c.deref_mut.ensures.len in
    let count = ap (λ (ns : List ℕ). length ns) are ∙ sizes-long c.args.heads.now c.args.order.now in
    ap (λ (ns : List ℕ). slice_index ns h) (c.deref_mut-2.ensures.value ∙ with_items_is sizes begins kept)
    ∙ c.put_begins.ensures h (omega (arith, l, count))
    ∙ ap (λ (ns : List ℕ). sum (take h ns)) are

pub returns : goal.returns
returns c =
    let places = c.in_ok-places.places.items in
    c.new.ensures
    ∙ ap (λ (ends : List ℕ). pieces 0 ends places)
    (c.in_ok-ends.ensures ∙ ap (λ (ns : List ℕ). ends_from 0 ns) (c.deref.ensures.value ∙ c.in_ok-sizes.ensures.sizes))
    ∙ laid-parts c.args.heads.now c.args.order.now places c.in_ok-places.ensures
