-- What came of the runs of a list, and the summary of it (docs/FORMATS.md).
use Rattle.std.specs.Prelude.{ℕ, ◌+◌, List, [], ◌∷◌, ◌++◌, length, Option, Some, None, Bool, true, false, is_some}
use Rattle.std.specs.Prelude.{is_none, if◌then◌else◌, ◌==◌, nat_lt, count_by, codes, decimal}
use Rattle.judged_runs.specs.declared.judgements.Verdict.TheVariants as verdict
use Rattle.judged_runs.specs.declared.outcomes.Outcome.{Outcome}
use Rattle.judged_runs.specs.declared.outcomes.Outcome.TheVariants as outcome
use Rattle.judged_runs.specs.declared.outcomes.LeastMargin.{LeastMargin}

-- the margin of a run, if a deadline was due and none was missed
abbrev pub margin_of : Outcome → Option ℕ
margin_of (outcome.Judged (verdict.Yes tested)) = tested.margin
margin_of (outcome.Judged v) = None
margin_of outcome.NotJudged = None

-- whether the verdict is yes, and a deadline was due
abbrev pub is_kept : Outcome → Bool
is_kept o = is_some (margin_of o)

-- whether the verdict is no
abbrev pub is_no : Outcome → Bool
is_no (outcome.Judged (verdict.Yes tested)) = false
is_no (outcome.Judged v) = true
is_no outcome.NotJudged = false

-- whether the verdict is yes, and no deadline was due
abbrev pub is_untested : Outcome → Bool
is_untested (outcome.Judged (verdict.Yes tested)) = is_none tested.margin
is_untested (outcome.Judged v) = false
is_untested outcome.NotJudged = false

-- whether there is no verdict
abbrev pub is_unjudged : Outcome → Bool
is_unjudged outcome.NotJudged = true
is_unjudged (outcome.Judged v) = false

-- the margin of the run of this number, unless a later run has a lesser one
abbrev pub nearer : Option ℕ → ℕ → Option LeastMargin → Option LeastMargin
nearer None run later = later
nearer (Some margin) run None = Some (record { margin = margin; run = run })
nearer (Some margin) run (Some later) = if nat_lt later.margin margin then Some later else Some
    (record { margin = margin; run = run })

-- the least margin of runs, of which the first one has this number, and the first run that has it
abbrev pub margins_after : ℕ → List Outcome → Option LeastMargin
margins_after run [] = None
margins_after run (o ∷ later) = nearer (margin_of o) run (margins_after (run + 1) later)

abbrev pub least_margin : List Outcome → Option LeastMargin
least_margin outcomes = margins_after 1 outcomes

-- the least margin with its run, if there is one
abbrev pub least_words : Option LeastMargin → List ℕ
least_words None = []
least_words (Some least) = codes "; least margin "
    ++ (decimal least.margin ++ (codes " (run " ++ (decimal least.run ++ codes ")")))

-- how many runs there are
abbrev pub count_words : ℕ → List ℕ
count_words runs = if runs == 1 then codes "1 run" else decimal runs ++ codes " runs"

-- how many runs there are, and how many of each kind
abbrev pub summary_words : ℕ → ℕ → ℕ → ℕ → ℕ → Option LeastMargin → List ℕ
summary_words runs kept refuted untested unjudged least =
    count_words runs
    ++ (codes ": "
    ++ (decimal kept
    ++ (codes " yes, " ++ (decimal refuted ++ (codes " no, " ++ (decimal untested ++ (codes " untested, "
    ++ (decimal unjudged ++ (codes " not judged" ++ least_words least)))))))))

-- the summary of what came of runs, with its line feed
abbrev pub told_summary : List Outcome → List ℕ
told_summary outcomes = summary_words (length outcomes) (count_by is_kept outcomes) (count_by is_no outcomes)
    (count_by is_untested outcomes)
    (count_by is_unjudged outcomes) (least_margin outcomes) ++ 10 ∷ []

-- the exit status for what came of runs
abbrev pub status_of_outcomes : List Outcome → ℕ
status_of_outcomes outcomes = if nat_lt 0 (count_by is_unjudged outcomes) then 10
    else (if nat_lt 0 (count_by is_no outcomes) then 1 else 0)
