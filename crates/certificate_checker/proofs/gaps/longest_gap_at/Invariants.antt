use Rattle.certificate_checker.proofs.SilentGaps.{KnowsLongest}
use Rattle.certificate_checker.proofs.gaps.longest_gap_at.Given as goal

-- the processors below p are scanned
abbrev pub invariant-loop-p : goal.invariant-loop-p
invariant-loop-p l = KnowsLongest l.set l.trace l.from l.p l.proc l.end
