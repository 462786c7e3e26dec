use Rattle.certificate_checker.specs.Silences.{KnowsSilences}
use Rattle.certificate_checker.proofs.silences.silences.Given as goal

-- the steps before number `no` are scanned
abbrev pub invariant-loop-no : goal.invariant-loop-no
invariant-loop-no l = KnowsSilences l.set l.trace l.no l.found.items
