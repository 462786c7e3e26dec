use Rattle.front.proofs.OneReport.{IsReport-unique}
use Rattle.front.proofs.StartRows.{IsReport-rows_of}
use Rattle.front.proofs.reports.front.Goals as goal

pub returns-clause-report : goal.returns-clause-report
returns-clause-report c =
    λ set trace are. rw c.in_ok-rows.ensures.items (IsReport-rows_of set trace c.args.stairs.now are)

pub returns-clause-only : goal.returns-clause-only
returns-clause-only c =
    λ set trace rows time are is_report. rw c.in_ok-rows.ensures.items
    (IsReport-unique set trace rows _ time is_report (IsReport-rows_of set trace c.args.stairs.now are))
