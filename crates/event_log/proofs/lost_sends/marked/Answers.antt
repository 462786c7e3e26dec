use Rattle.std.proofs.Common.{◌∙◌, false, ap, rules}
use Rattle.std.specs.Prelude.{slice_index_or}
use Rattle.std.proofs.lemmas.List.{get_or-replicate}
use Rattle.event_log.proofs.lost_sends.marked.Goals as goal

pub loop-hop-init : goal.loop-hop-init
loop-hop-init c = record {
  long = search rules;
  marked = λ s h. ap (λ xs. slice_index_or xs s false) (c.in_ok-marks.ensures.items_if_clones_equal (λ y e. e))
      ∙ get_or-replicate c.args.count s false false h;
}
