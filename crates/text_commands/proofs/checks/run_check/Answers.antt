use Rattle.std.proofs.Common.{refl}
use Rattle.std.proofs.lemmas.Result.{err_from_is_err_and}
use Rattle.text_verdicts.specs.VerdictLines.{told_verdict}
use Rattle.text_commands.specs.Answers.{IsAnswerTo, IsUnanswered}
use Rattle.text_commands.specs.Checks.{IsLineOn, IsToldOfChecks, IsUnchecked}
use Rattle.text_commands.specs.Serving.{IsFaultOf}
use Rattle.text_commands.proofs.CheckFaults.{IsCutTo, certificate-served, certificate-told, check-served, claimable, judged-on}
use Rattle.text_commands.proofs.DeclinedTraces.{text_of}
use Rattle.text_commands.proofs.WrittenAnswers.{cut, whole-unread}
use Rattle.text_commands.proofs.checks.run_check.Goals as goal

pub returns-in_err-rows-clause-own : goal.returns-in_err-rows-clause-own
returns-in_err-rows-clause-own g c =
    let p = err_from_is_err_and c.from_residual-in_err-rows.result c.from_residual-in_err-rows.ensures.1 in
    rw (p.1, p.2)
    (whole-unread (IsFaultOf (IsToldOfChecks c.args.claim.now)) _ _ _ tt tt (λ large. (λ e. cc, λ e. cc)) c.in_err-rows.ensures.refused)

-- the certificate isn't read to its end, after the trace was cut
pub returns-in_err-rows-clause-trace_first : goal.returns-in_err-rows-clause-trace_first
returns-in_err-rows-clause-trace_first g c =
    let claim = c.args.claim.now in
    let read = c.in_ok-trace.ensures.read in
    let all : IsCutTo claim read.text c.in_ok-trace.trace c.in_ok-reported.reported =
    record { read = text_of read; within = c.in_ok-reported.ensures.within; until = c.in_ok-reported.ensures.reported } in
    λ more. claimable claim read.text _ _ _ read.is all

-- the certificate is refused
pub returns-in_err-verdict-clause-refused : goal.returns-in_err-verdict-clause-refused
returns-in_err-verdict-clause-refused g c =
    let p = err_from_is_err_and c.from_residual-in_err-verdict.result c.from_residual-in_err-verdict.ensures.1 in
    let claim = c.args.claim.now in
    let rows = c.in_ok-rows.rows.items in
    let read = c.in_ok-trace.ensures.read in
    let all : IsCutTo claim read.text c.in_ok-trace.trace c.in_ok-reported.reported =
    record { read = text_of read; within = c.in_ok-reported.ensures.within; until = c.in_ok-reported.ensures.reported } in
    rw (p.1, p.2) (check-served claim rows read.text _ _ _ _ _ read.is c.in_ok-rows.ensures.text
    (certificate-served claim rows read.text _ _ _ _ _ all (rw c.deref.ensures.value at c.in_err-verdict.ensures.refused)))

pub returns-in_err-verdict-clause-own : goal.returns-in_err-verdict-clause-own
returns-in_err-verdict-clause-own g c =
    let p = err_from_is_err_and c.from_residual-in_err-verdict.result c.from_residual-in_err-verdict.ensures.1 in
    rw (p.1, p.2) (certificate-told c.args.claim.now _ _ c.in_err-verdict.ensures.refused)

-- the line of the verdict wasn't written whole
pub returns-in_err-tell_verdict-clause-refused : goal.returns-in_err-tell_verdict-clause-refused
returns-in_err-tell_verdict-clause-refused g c =
    let p = err_from_is_err_and c.from_residual-in_err-tell_verdict.result c.from_residual-in_err-tell_verdict.ensures.1 in
    let claim = c.args.claim.now in
    let rows = c.in_ok-rows.rows.items in
    let read = c.in_ok-trace.ensures.read in
    let v = c.in_ok-verdict.verdict in
    let all : IsCutTo claim read.text c.in_ok-trace.trace c.in_ok-reported.reported =
    record { read = text_of read; within = c.in_ok-reported.ensures.within; until = c.in_ok-reported.ensures.reported } in
    let exact = judged-on claim rows read.text _ _ v all c.in_ok-reported.ensures.count
    (rw c.deref.ensures.value at c.in_ok-verdict.ensures.verdict) in
    rw (p.1, p.2) (check-served claim rows read.text _ _ _ _ _ read.is c.in_ok-rows.ensures.text
    (cut (IsAnswerTo (IsLineOn claim rows)) (IsUnanswered (IsUnchecked claim rows)) read.text (told_verdict v) _ _ _
    (record { trace = c.in_ok-trace.trace; read = text_of read; holds = record { verdict = v; exact = exact; told = refl } })
    tt c.in_err-tell_verdict.ensures.part))

pub returns-clause-verdict : goal.returns-clause-verdict
returns-clause-verdict g c =
    let claim = c.args.claim.now in
    let rows = c.in_ok-rows.rows.items in
    let read = c.in_ok-trace.ensures.read in
    let all : IsCutTo claim read.text c.in_ok-trace.trace c.in_ok-reported.reported =
    record { read = text_of read; within = c.in_ok-reported.ensures.within; until = c.in_ok-reported.ensures.reported } in
    let exact = judged-on claim rows read.text _ _ c.in_ok-verdict.verdict all c.in_ok-reported.ensures.count
    (rw c.deref.ensures.value at c.in_ok-verdict.ensures.verdict) in (
      read.text,
      rows,
      read.is,
      c.in_ok-rows.ensures.text,
      record { trace = c.in_ok-trace.trace; read = text_of read; holds = exact },
      c.in_ok-tell_verdict.ensures.told,
    )
