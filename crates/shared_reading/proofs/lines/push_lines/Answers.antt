use Rattle.std.proofs.Common.{◌≡◌, ◌≢◌, ◌<◌, ◌+◌, Ok, Err, length, subst, arith}
use Rattle.std.specs.Prelude.{MatchBool, ⊤}
use Rattle.trace_text.specs.declared.reading.Stage.TheVariants.{Recording}
use Rattle.trace_text.specs.declared.refusals.TextError.TheVariants.{WrongNumber}
use Rattle.trace_text.specs.TextRefusals.{is_memory}
use Rattle.shared_reading.specs.Lines.{Read, after_lines}
use Rattle.shared_reading.proofs.NumberedLines.{numbered-none, numbered-apart, numbered-taken, numbered-refused}
use Rattle.shared_reading.proofs.lines.push_lines.Goals as goal

pub returns-then-lines-eq0 : goal.returns-then-lines-eq0
returns-then-lines-eq0 c =
    let s = c.lines.inside in
    let none : length s.steps.steps ≡ 0 = omega (arith, c.lines.invariant.1) in
    subst (λ (r : Read). after_lines c.args.version c.args.trace r.lines ≡ Ok (Recording c.args.version c.args.trace)) c.lines.view_is
    (numbered-none c.args.version c.args.trace s.first s.steps.steps s.steps.ticks none)

pub returns-then-lines-no : goal.returns-then-lines-no
returns-then-lines-no c =
    let s = c.lines.inside in
    let value = c.len.ensures.value in
    let some : 0 < length s.steps.steps = omega (arith, c.lines.invariant.1) in
    let other : s.first ≢ c.len.result + 1 = c.if-lines-no.true in
    subst (λ (r : Read). after_lines c.args.version c.args.trace r.lines ≡ Err (WrongNumber (c.len.result + 1))) c.lines.view_is
    (rw value (numbered-apart c.args.version c.args.trace s.first s.steps.steps s.steps.ticks (rw value at other) c.lines.invariant.0 some))

pub returns-in-Ok : goal.returns-in-Ok
returns-in-Ok c =
    let s = c.lines.inside in
    let value = c.len.ensures.value in
    let at : s.first ≡ length c.args.trace.steps + 1 = omega (arith, value) in
    subst (λ (r : Read). after_lines c.args.version c.args.trace r.lines ≡ Ok (Recording c.args.version c.in-Ok.longer)) c.lines.view_is
    (numbered-taken c.args.version c.args.trace c.in-Ok.longer
    s.first s.steps.steps s.steps.ticks at c.lines.invariant.0 c.in-Ok.ensures.appended)

pub returns-in-Err : goal.returns-in-Err
returns-in-Err c =
    let s = c.lines.inside in
    let value = c.len.ensures.value in
    let at : s.first ≡ length c.args.trace.steps + 1 = omega (arith, value) in
    subst (λ (r : Read). MatchBool (is_memory c.refusal_of.result) ⊤
    (after_lines c.args.version c.args.trace r.lines ≡ Err c.refusal_of.result)) c.lines.view_is
    (rw c.refusal_of.ensures (numbered-refused c.args.version
    c.args.trace s.first s.steps.steps s.steps.ticks c.in-Err.refused at c.lines.invariant.0 c.in-Err.ensures.refused))
