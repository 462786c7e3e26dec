use Rattle.std.proofs.Common.{◌≡◌, ◌∙◌, ◌<◌, sym, map, length, subst}
use Rattle.run_words.specs.Names.{IsName, IsNew, name_at}
use Rattle.run_words.proofs.NameLists.{below_more, name_at-text, confirmed}
use Rattle.run_words.proofs.names.test_names.Goals as goal

pub loop-i-preserved : goal.loop-i-preserved
loop-i-preserved c =
    let below : c.loop-i.i < length c.args.names.now = c.loop-i-test.true in
    let text : name_at (map (λ x. x.now) c.args.names.now) c.loop-i.i
    ≡ c.as_bytes.result.now = name_at-text c.args.names.now c.loop-i.i below ∙ sym c.as_bytes.ensures.value in
    record {
      each = below_more (λ k. IsName (name_at (map (λ x. x.now) c.args.names.now) k)) c.loop-i.i c.loop-i.invariant.each (subst
          (λ t. IsName t) (sym text) (confirmed c.is_name.result (IsName c.as_bytes.result.now) c.is_name.ensures c.if-not-is_name.false));
      different = below_more (λ k. IsNew (map (λ x. x.now) c.args.names.now) k) c.loop-i.i c.loop-i.invariant.different
          (confirmed c.is_new.result (IsNew (map (λ x. x.now) c.args.names.now) c.loop-i.i) c.is_new.ensures c.if-not-is_new.false);
    }
