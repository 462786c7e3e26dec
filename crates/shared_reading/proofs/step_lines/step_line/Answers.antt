use Rattle.std.proofs.Common.{◌≡◌, drop, Ok}
use Rattle.csv.specs.Reading.{strip_bom}
use Rattle.shared_reading.specs.Lines.{line_of}
use Rattle.shared_reading.specs.StepFields.{record_of}
use Rattle.shared_reading.proofs.StepLines.{step-told}
use Rattle.shared_reading.proofs.step_lines.step_line.Goals as goal

pub returns-in-Ok-clause-told : goal.returns-in-Ok-clause-told
returns-in-Ok-clause-told c =
    let text = c.args.text.now in
    let f = c.in-Some.fields in
    let end = f.arg.field.end in
    let begin : strip_bom (drop c.args.at text) ≡ drop c.args.at text =
    rw c.tail.ensures at c.may_be_marked.ensures.unmarked c.if-may_be_marked.false in
    let behind : strip_bom (drop end text) ≡ drop end text =
    rw c.tail-else-may_be_marked.ensures at c.may_be_marked-else-may_be_marked.ensures.unmarked c.if-may_be_marked-2.false in
    let told : line_of c.args.version (record_of c.args.version f) ≡ Ok c.in-Ok.line = rw c.in-Ok.is at c.told_line.ensures in
    step-told c.args.version text c.args.at f c.in-Ok.line
    c.in-Some.ensures.some c.in-Some.ensures.end c.in-Some.ensures.line begin behind told
