use Rattle.std.proofs.Common.{refl}
use Rattle.event_log.specs.declared.told_lines.ToldLines.{ToldLines}
use Rattle.event_log.proofs.ToldLines.{told-more}
use Rattle.event_log.proofs.told_lines.told_lines.Goals as goal

pub loop-preserved : goal.loop-preserved
loop-preserved c =
    let next : ToldLines = record { rows = c.push.new.self; end = c.in-Some.end } in
    told-more c.args.rules.now c.args.lines.text.now c.args.at c.loop.told c.read.new.self
    c.in-Some.end c.in-Some-told_by.row next c.loop.invariant c.in-Some.ensures c.in-Some-told_by.ensures c.in-Ok.ensures.items refl
