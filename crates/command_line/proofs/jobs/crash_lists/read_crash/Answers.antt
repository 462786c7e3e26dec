use Rattle.std.proofs.Common.{◌∙◌, None, Some}
use Rattle.command_line.proofs.CrashLists.{cut_at}
use Rattle.command_line.proofs.jobs.crash_lists.read_crash.Goals as goal

pub returns-in_err-proc-clause-none : goal.returns-in_err-proc-clause-none
returns-in_err-proc-clause-none c = rw (c.from_residual.ensures) (λ crash h e. cut_at _ crash None c.in_err-proc.ensures.cases h e)

pub returns-in_err-read_number-clause-none : goal.returns-in_err-read_number-clause-none
returns-in_err-read_number-clause-none c = rw (c.from_residual-in_err-read_number.ensures) (λ crash h e.
    let cut = cut_at _ crash (Some (c.in_ok-proc.proc, c.in_ok-proc.tick)) c.in_ok-proc.ensures.cases h e in
    c.in_err-read_number.ensures.none crash.proc h.0 (c.as_bytes.ensures.value ∙ cut.0))

pub returns-in_err-read_number-2-clause-none : goal.returns-in_err-read_number-2-clause-none
returns-in_err-read_number-2-clause-none c = rw (c.from_residual-in_err-read_number-2.ensures) (λ crash h e.
    let cut = cut_at _ crash (Some (c.in_ok-proc.proc, c.in_ok-proc.tick)) c.in_ok-proc.ensures.cases h e in
    c.in_err-read_number-2.ensures.none crash.tick h.1 (c.as_bytes-2.ensures.value ∙ cut.1))
