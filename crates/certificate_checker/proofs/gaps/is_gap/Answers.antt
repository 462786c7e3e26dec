use Rattle.std.proofs.Common.{◌∙◌, sym, arith}
use Rattle.std.proofs.lemmas.Bool.{ltb-true, lt-ltb}
use Rattle.certificate_checker.proofs.SilentGaps.{silence_of, gap_before, gap_ends}
use Rattle.certificate_checker.proofs.gaps.is_gap.Goals as goal

pub returns-clause-exact : goal.returns-clause-exact
returns-clause-exact c =
    let t = c.args.trace.now in
    let member = sym c.contains.ensures ∙ c.if-not-contains.false in
    let last = c.last_tick.ensures.value in
    let order = c.if-gap.false in
    let zero = c.if-gap-eq0.false in
    let silence = silence_of c.args.set t c.args.silences.now c.args.gap.proc c.index-silences-gap.result c.requires.known member
    (c.requires.set c.args.gap.proc member) c.index-silences-gap.is in
    let next = c.end.ensures c.args.gap.proc silence (omega (arith, last, order, c.if-last_tick-gap.false)) in (
      λ h. gap_before c.args.set t c.args.gap.proc c.args.gap.from c.args.gap.to c.end.result next member
          (omega (arith, zero)) order (ltb-true c.args.gap.to c.end.result h),
      λ g. lt-ltb c.args.gap.to c.end.result (gap_ends c.args.set t c.args.gap c.end.result next g),
    )
