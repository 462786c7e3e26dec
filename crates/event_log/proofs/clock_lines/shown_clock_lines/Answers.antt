use Rattle.std.proofs.Common.{◌∙◌, List, [], ◌∷◌, ◌++◌, ap₂, arith, sym}
use Rattle.std.proofs.lemmas.List.FromFn.{map-range_with_len_more}
use Rattle.event_log.specs.declared.cycle_lines.CycleLine.{CycleLine}
use Rattle.event_log.specs.ClockLines.{clock_line_at}
use Rattle.event_log.proofs.clock_lines.shown_clock_lines.Goals as goal

pub loop-k-preserved : goal.loop-k-preserved
loop-k-preserved c =
    let line = clock_line_at c.args.text.now c.args.nodes.now c.args.events.now c.args.hops.now in
    c.in_ok-push.ensures.items ∙ ap₂ (λ (lines : List CycleLine) last. lines ++ last ∷ []) c.loop-k.invariant c.in_ok-clock_line.ensures
    ∙ sym (map-range_with_len_more line 0 c.loop-k.k c.loop-k.k (omega arith))
