-- The line of a verdict (docs/FORMATS.md), without its line feed, and its exit status.
use Rattle.std.specs.Prelude.{ℕ, List, [], ◌∷◌, ◌++◌, codes, decimal}
use Rattle.step_trace.specs.declared.rows.Gap.{Gap}
use Rattle.step_trace.specs.declared.rows.Miss.{Miss}
use Rattle.certificate_checker.specs.declared.verdicts.Reason.{Reason}
use Rattle.certificate_checker.specs.declared.verdicts.Reason.TheVariants as reason
use Rattle.certificate_checker.specs.declared.verdicts.Verdict.{Verdict}
use Rattle.certificate_checker.specs.declared.verdicts.Verdict.TheVariants as verdict

-- the name of a reason and the number of its row
abbrev pub at_row : List ℕ → ℕ → List ℕ
at_row name row = name ++ (codes " " ++ decimal row)

-- a miss as sent and missed, and a gap as proc, from and to
abbrev pub miss_words : Miss → List ℕ
miss_words m = decimal m.sent ++ (codes " " ++ decimal m.missed)

abbrev pub gap_words : Gap → List ℕ
gap_words w = decimal w.proc ++ (codes " " ++ (decimal w.from ++ (codes " " ++ decimal w.to)))

-- the name of a reason and its numbers, with one space between them
abbrev pub reason_words : Reason → List ℕ
reason_words reason.NoRows = codes "NoRows"
reason_words reason.FirstNotOne = codes "FirstNotOne"
reason_words (reason.NotRising row) = at_row (codes "NotRising") row
reason_words (reason.BeyondEnd row) = at_row (codes "BeyondEnd") row
reason_words (reason.NotNonIncreasing row) = at_row (codes "NotNonIncreasing") row
reason_words (reason.SameAsBefore row) = at_row (codes "SameAsBefore") row
reason_words (reason.BadMiss row) = at_row (codes "BadMiss") row
reason_words (reason.BadGap row) = at_row (codes "BadGap") row
reason_words (reason.DeltaFails row m) = at_row (codes "DeltaFails") row ++ (codes " " ++ miss_words m)
reason_words (reason.PhiFails row w) = at_row (codes "PhiFails") row ++ (codes " " ++ gap_words w)

-- the line of a verdict
abbrev pub verdict_line : Verdict → List ℕ
verdict_line verdict.Yes = codes "yes"
verdict_line (verdict.No why) = codes "no " ++ reason_words why

-- the line of the verdict, with its line feed
abbrev pub told_verdict : Verdict → List ℕ
told_verdict v = verdict_line v ++ 10 ∷ []

-- the exit status of a verdict
abbrev pub status_of_verdict : Verdict → ℕ
status_of_verdict verdict.Yes = 0
status_of_verdict (verdict.No why) = 1
