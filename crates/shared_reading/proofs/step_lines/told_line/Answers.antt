use Rattle.std.proofs.Common.{◌≡◌, ℕ, Some, Ok}
use Rattle.step_trace.specs.declared.steps.Step.{Step}
use Rattle.trace_text.specs.JudgedIds.{judged_of}
use Rattle.shared_reading.proofs.StepLines.{line-answered}
use Rattle.shared_reading.proofs.step_lines.told_line.Goals as goal

pub returns : goal.returns
returns c =
    let f = c.args.fields in
    let told : ℕ × Step = (c.in_ok-tick.tick, c.in_ok-tick.step) in
    let step : judged_of f.no.number (Some f.tick.number) f.operation.bytes.now f.proc.field.bytes.now f.arg.field.bytes.now
    ≡ Ok told = rw c.in_ok-tick.was at c.told_step.ensures in
    line-answered c.args.version f told c.narrow_line.result c.requires step c.narrow_line.ensures
