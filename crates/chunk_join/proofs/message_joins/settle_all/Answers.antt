use Rattle.std.proofs.Common.{◌≤◌, ◌∙◌, length, map, ap, sym, subst, arith, drop_of_length-le}
use Rattle.chunk_join.specs.Summaries.{Rises, SentBefore}
use Rattle.chunk_join.specs.Parts.{settle}
use Rattle.chunk_join.proofs.SettledMessages.{map-settle_none, settled_back, settled_rise}
use Rattle.chunk_join.proofs.message_joins.settle_all.Goals as goal

pub loop-k-init : goal.loop-k-init
loop-k-init c =
    let all : length c.args.taken.now ≤ length c.args.taken.now = omega arith in (
      map-settle_none c.args.last.now c.args.sent.now
          ∙ ap (λ ts. map (settle ts c.args.last.now) c.args.sent.now) (sym (drop_of_length-le c.args.taken.now all)),
      all,
    )

pub settle_one-requires : goal.settle_one-requires
settle_one-requires c = subst (Rises SentBefore) (sym c.loop-k.invariant.0) (settled_rise _ _ _ c.requires)

pub loop-k-preserved : goal.loop-k-preserved
loop-k-preserved c =
    let inside = c.loop-k.invariant.1 in (
      settled_back c.args.taken.now c.args.last.now c.args.sent.now c.loop-k.sent
          c.settle_one.new.sent c.loop-k.k _ c.loop-k-test.true inside c.loop-k.invariant.0 c.settle_one.ensures,
      omega (arith, inside),
    )
