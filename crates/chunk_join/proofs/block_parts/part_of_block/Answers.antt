use Rattle.std.proofs.Common.{◌≡◌, ◌<◌, ◌-◌, filter, refl, arith, rules}
use Rattle.chunk_join.specs.Parts.{is_older}
use Rattle.chunk_join.specs.BlockSteps.{AreFates, AreFated}
use Rattle.chunk_join.proofs.BlockParts.{IsSummary-block}
use Rattle.chunk_join.proofs.Consistency.{IsConsistent-summary}
use Rattle.chunk_join.proofs.block_parts.part_of_block.Goals as goal

pub returns : goal.returns
returns c =
    let t = c.args.trace.now in
    let sound = c.last_tick-ticks.ensures.well_formed in
    let each : AreFates c.steps_before-before.result c.in_ok-taken.field-0.taken.items c.in_ok-fates.fates.items = search rules in
    let sent : AreFated c.args.set t (c.args.from - 1)
    c.steps_before-before.result c.steps_before-end.result c.in_ok-fates.fates.items c.in_ok-sent.sent.items = search rules in
    let old : c.keep_older.new.taken.items ≡ filter (is_older c.args.from) c.in_ok-taken.field-0.taken.items = search rules in
    IsSummary-block c.args.set t sound c.args.from c.args.to c.steps_before-before.result c.steps_before-end.result _
    c.in_ok-fates.fates.items c.in_ok-taken.field-0.taken.items c.requires.low refl refl refl
    c.steps_before-before.ensures c.steps_before-end.ensures c.in_ok-fates.ensures.long each sent
    c.in_ok-taken.ensures.taken old
    c.in_ok-taken.ensures.last c.in_ok-silent.ensures

pub invariant_of-result : goal.invariant_of-result
invariant_of-result c =
    let t = c.args.trace.now in
    let sound = c.last_tick-ticks.ensures.well_formed in
    let each : AreFates c.steps_before-before.result c.in_ok-taken.field-0.taken.items c.in_ok-fates.fates.items = search rules in
    let sent : AreFated c.args.set t (c.args.from - 1)
    c.steps_before-before.result c.steps_before-end.result c.in_ok-fates.fates.items c.in_ok-sent.sent.items = search rules in
    let old : c.keep_older.new.taken.items ≡ filter (is_older c.args.from) c.in_ok-taken.field-0.taken.items = search rules in
    IsConsistent-summary c.args.set t c.last_tick-ticks.ensures.timed (c.args.from - 1) c.args.to _
    (let l : c.args.from - 1 < c.args.to = omega (arith, c.requires.low, c.requires.order) in l) c.requires.high
    (IsSummary-block c.args.set t sound c.args.from c.args.to c.steps_before-before.result c.steps_before-end.result _
    c.in_ok-fates.fates.items c.in_ok-taken.field-0.taken.items c.requires.low refl refl refl
    c.steps_before-before.ensures c.steps_before-end.ensures c.in_ok-fates.ensures.long each sent
    c.in_ok-taken.ensures.taken old
    c.in_ok-taken.ensures.last c.in_ok-silent.ensures)
