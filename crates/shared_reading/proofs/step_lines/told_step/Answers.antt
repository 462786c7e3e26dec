use Rattle.std.proofs.Common.{◌≡◌, ◌∙◌, Some, sym}
use Rattle.trace_text.specs.Records.{number_of}
use Rattle.shared_reading.proofs.StepLines.{step-done}
use Rattle.shared_reading.proofs.step_lines.told_step.Goals as goal

pub returns-in-Some-act_with : goal.returns-in-Some-act_with
returns-in-Some-act_with c =
    let f = c.args.fields in
    let arg : number_of f.arg.field.bytes.now ≡ Some c.in-Some.number = rw c.in-Some.is at c.requires.arg in
    step-done f.no.number f.tick.number f.operation.bytes.now
    f.proc.field.bytes.now f.arg.field.bytes.now f.proc.number c.in-Some.number c.in-Some-act_with.act c.requires.proc arg
    (sym c.act_with.ensures ∙ c.in-Some-act_with.is)
