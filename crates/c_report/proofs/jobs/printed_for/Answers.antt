use Rattle.std.proofs.Common.{sym}
use Rattle.c_report.proofs.jobs.printed_for.Goals as goal

-- src/jobs.rt:39:1
pub returns-in-Report-clause-printed : goal.returns-in-Report-clause-printed
returns-in-Report-clause-printed c = rw c.in-Report.is (rw (sym c.as_str.ensures.value) c.answer.ensures.printed)

-- src/jobs.rt:39:1
pub returns-in-Brief-clause-printed : goal.returns-in-Brief-clause-printed
returns-in-Brief-clause-printed c = rw c.in-Brief.is (rw (sym c.as_str-in-Brief.ensures.value) c.answer-in-Brief.ensures.printed)

-- src/jobs.rt:39:1
pub returns-in-Each-clause-printed : goal.returns-in-Each-clause-printed
returns-in-Each-clause-printed c = rw c.in-Each.is (rw (sym c.as_str-in-Each.ensures.value) c.answer-in-Each.ensures.printed)

pub returns-in-Timeouts-clause-printed : goal.returns-in-Timeouts-clause-printed
returns-in-Timeouts-clause-printed c = rw c.in-Timeouts.is
    (rw (sym c.as_str-in-Timeouts.ensures.value) c.answer-in-Timeouts.ensures.printed)

-- src/jobs.rt:39:1
pub returns-in-Replay-clause-printed : goal.returns-in-Replay-clause-printed
returns-in-Replay-clause-printed c = rw c.in-Replay.is (rw (sym c.as_str-in-Replay.ensures.value) c.answer-in-Replay.ensures.printed)

-- src/jobs.rt:39:1
pub returns-in-Upgrade-clause-printed : goal.returns-in-Upgrade-clause-printed
returns-in-Upgrade-clause-printed c = rw c.in-Upgrade.is (rw (sym c.as_str-in-Upgrade.ensures.value) c.answer-in-Upgrade.ensures.printed)

-- src/jobs.rt:39:1
pub returns-in-Draw-clause-printed : goal.returns-in-Draw-clause-printed
returns-in-Draw-clause-printed c = rw c.in-Draw.is c.draw.ensures.printed

-- src/jobs.rt:39:1
pub returns-in-Page-clause-printed : goal.returns-in-Page-clause-printed
returns-in-Page-clause-printed c = rw c.in-Page.is c.page.ensures.printed

-- src/jobs.rt:39:1
pub returns-in-Import-clause-printed : goal.returns-in-Import-clause-printed
returns-in-Import-clause-printed c = rw c.in-Import.is c.import.ensures.printed

-- src/jobs.rt:39:1
pub returns-in-Check-clause-printed : goal.returns-in-Check-clause-printed
returns-in-Check-clause-printed c = rw c.in-Check.is c.check.ensures.printed

-- src/jobs.rt:39:1
pub returns-in-Judge-clause-printed : goal.returns-in-Judge-clause-printed
returns-in-Judge-clause-printed c = rw c.in-Judge.is c.judge.ensures.printed
