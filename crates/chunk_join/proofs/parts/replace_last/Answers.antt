use Rattle.std.proofs.Common.{◌<◌, ◌∙◌, length, get_or, Option, None, arith, ap, sym, refl}
use Rattle.std.proofs.lemmas.List.{length-set, get_or_default}
use Rattle.chunk_join.specs.declared.summaries.Place.{Place}
use Rattle.chunk_join.specs.Parts.{later_of}
use Rattle.chunk_join.proofs.LastEntries.{later_each-nil, later_each-more}
use Rattle.chunk_join.proofs.parts.replace_last.Goals as goal

pub loop-p-init : goal.loop-p-init
loop-p-init c = (sym (later_each-nil _), refl)

pub loop-p-preserved : goal.loop-p-preserved
loop-p-preserved c =
    let old = c.args.left.now.items in
    let now = c.loop-p.left.items in
    let right = c.args.right.now in
    let p = c.loop-p.p in
    let long = c.requires in
    let same = c.loop-p.invariant.1 in
    let inside : p < length now = omega (arith, long, same, c.loop-p-test.true) in
    let value = c.later_of.ensures ∙ ap (λ (o : Option Place). later_of o (get_or right p None))
    (c.index.ensures ∙ get_or_default now p c.index.result.now None inside) in (
      later_each-more old right p now c.later_of.result None (omega (arith, inside, same)) long c.loop-p.invariant.0 value,
      length-set now p c.later_of.result ∙ same,
    )
