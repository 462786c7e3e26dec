-- What a verdict means for rows, and for the report.
use Rattle.std.proofs.Common.{ℕ, ◌≡◌, List, refl, subst}
use Rattle.certificate_checker.proofs.Common.{Row, Recorded, IsReport, Verdict, Yes, No, Certifies, IsVerdict}
use Rattle.certificate_checker.proofs.Soundness.{Certifies-unopposed}
use Rattle.certificate_checker.proofs.Completeness.{IsUnopposed-report}

-- rows of which the verdict is Yes certify themselves
pub Certifies-from_verdict : (set : ℕ) (trace : Recorded) (rows : List Row) (v : Verdict)
    → IsVerdict set trace rows v → v ≡ Yes → Certifies set trace rows
Certifies-from_verdict set trace rows v verdict same = Certifies-unopposed set trace rows (subst (IsVerdict set trace rows) same verdict)

-- the verdict on the report is Yes
pub IsVerdict-report : (set : ℕ) (trace : Recorded) (rows : List Row)
    → IsReport set trace rows → (v : Verdict) → IsVerdict set trace rows v → v ≡ Yes
IsVerdict-report set trace rows report Yes verdict = refl
IsVerdict-report set trace rows report (No w) verdict = absurd (IsUnopposed-report set trace rows report w verdict.0)
