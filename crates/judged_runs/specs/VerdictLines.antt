-- The line of a verdict on decisions (docs/FORMATS.md), without its line feed, and its exit status.
use Rattle.std.specs.Prelude.{ℕ, List, [], ◌∷◌, ◌++◌, Option, Some, None, codes, decimal}
use Rattle.decision_claims.specs.declared.decisions.Decision.{Decision}
use Rattle.decision_claims.specs.declared.lateness.Late.{Late}
use Rattle.decision_claims.specs.declared.margins.Tested.{Tested}
use Rattle.judged_runs.specs.declared.judgements.Verdict.{Verdict}
use Rattle.judged_runs.specs.declared.judgements.Verdict.TheVariants as verdict

-- a number after a space
abbrev pub more : ℕ → List ℕ
more number = codes " " ++ decimal number

-- a decision as proc, tick and value
abbrev pub decision_words : Decision → List ℕ
decision_words d = more d.proc ++ (more d.tick ++ more d.value)

-- the margin, if something was due
abbrev pub margin_words : Option ℕ → List ℕ
margin_words None = []
margin_words (Some margin) = codes " margin" ++ more margin

-- how many rows were due and how many come later, and the margin
abbrev pub tested_words : Tested → List ℕ
tested_words t = more t.due ++ (codes " due" ++ (more t.later ++ (codes " later" ++ margin_words t.margin)))

-- what was late, as gst, delta, phi, deadline and proc
abbrev pub late_words : Late → List ℕ
late_words w = more w.row.gst ++ (more w.row.delta ++ (more w.row.phi ++ (more w.deadline ++ more w.proc)))

-- the line of a verdict
abbrev pub verdict_line : Verdict → List ℕ
verdict_line (verdict.Yes tested) = codes "yes" ++ tested_words tested
verdict_line (verdict.Differ a b) = codes "no agreement" ++ (decision_words a ++ decision_words b)
verdict_line (verdict.Foreign d) = codes "no validity" ++ decision_words d
verdict_line (verdict.LateBy w) = codes "no deadline" ++ late_words w
verdict_line (verdict.Untested count) = codes "no due" ++ more count

-- the line of the verdict, with its line feed
abbrev pub told_verdict : Verdict → List ℕ
told_verdict v = verdict_line v ++ 10 ∷ []

-- the exit status of a verdict
abbrev pub status_of_verdict : Verdict → ℕ
status_of_verdict (verdict.Yes tested) = 0
status_of_verdict v = 1
