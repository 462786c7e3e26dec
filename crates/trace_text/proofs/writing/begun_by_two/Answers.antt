use Rattle.std.proofs.Common.{◌≡◌, ◌+◌, ◌-◌, ◌/◌, arith, subst}
use Rattle.std.specs.Prelude.{IfOk}
use Rattle.trace_text.specs.declared.versions.Version.TheVariants.{Two}
use Rattle.trace_text.specs.TraceTexts.{begun_text, steps_text}
use Rattle.trace_text.proofs.WrittenRecords.{begun_text-parts}
use Rattle.trace_text.proofs.writing.begun_by_two.Goals as goal

pub returns-clause-text : goal.returns-clause-text
returns-clause-text g c =
    let half = c.args.count / 2 in
    let all : half + (c.args.count - half) ≡ c.args.count = omega arith in
    let first =
    subst (λ r. IfOk r (λ text. text.items ≡ begun_text Two c.args.trace.now half)) c.in_ok-text.was c.join-second.ensures.second.0 in
    let second = subst (λ r. IfOk r (λ text. text.items ≡ steps_text Two c.args.trace.now half c.args.count))
    c.in_ok-second.was c.join-second.ensures.first in
    rw (c.in_ok-extend_from_slice.ensures.items, first, c.deref.ensures.value, second)
    (rw all at (begun_text-parts Two c.args.trace.now half (c.args.count - half)))
