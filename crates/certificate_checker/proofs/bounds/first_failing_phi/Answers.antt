use Rattle.certificate_checker.proofs.LongestSilences.{silence_has_gap, PhiFails-from_silence, too_short-from_PhiFails}
use Rattle.certificate_checker.proofs.bounds.first_failing_phi.Goals as goal

pub returns-in_err-row : goal.returns-in_err-row
returns-in_err-row c = rw c.from_residual.ensures (λ k w s. c.in_err-row.ensures k _
    (too_short-from_PhiFails c.args.set c.args.trace.now c.args.closings.now c.args.rows.now k w c.requires.closings c.requires.order s))

pub unreachable-requires : goal.unreachable-requires
unreachable-requires c =
    let short = c.in_ok-row.ensures.0 in
    silence_has_gap c.args.set c.args.trace.now c.args.closings.now short.row.row.gst c.in_ok-row.longest
    c.requires.closings (c.requires.order.start c.in_ok-row.row short.row.row short.row.here) short.longest
    short.some c.in-None.ensures

pub returns : goal.returns
returns c = (
  PhiFails-from_silence c.args.set c.args.trace.now c.args.closings.now c.args.rows.now
      c.in_ok-row.row c.in_ok-row.longest c.in-Some.gap c.requires.closings c.requires.order c.in_ok-row.ensures.0 c.in-Some.ensures,
  λ j w s. c.in_ok-row.ensures.1 j _
      (too_short-from_PhiFails c.args.set c.args.trace.now c.args.closings.now c.args.rows.now j w c.requires.closings c.requires.order s),
)
