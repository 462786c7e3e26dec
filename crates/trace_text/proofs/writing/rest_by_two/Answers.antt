use Rattle.std.proofs.Common.{◌≡◌, ◌+◌, ◌-◌, ◌/◌, subst}
use Rattle.std.specs.Prelude.{IfOk}
use Rattle.trace_text.specs.declared.versions.Version.TheVariants.{Two}
use Rattle.trace_text.specs.TraceTexts.{rest_text, steps_text}
use Rattle.trace_text.proofs.WrittenRecords.{rest_text-parts}
use Rattle.trace_text.proofs.writing.rest_by_two.Goals as goal

pub returns : goal.returns
returns g c =
    let count = c.args.count in
    let more = (c.len.result - count) / 2 in
    let first = subst (λ r. IfOk r (λ text. text.items ≡ steps_text Two c.args.trace.now count (count + more)))
    c.in_ok-text.was c.join-second.ensures.second in
    let second = subst (λ r. IfOk r (λ text. text.items ≡ rest_text Two c.args.trace.now (count + more)))
    c.in_ok-second.was c.join-second.ensures.first in
    rw (c.in_ok-extend_from_slice.ensures.items, first, c.deref.ensures.value, second) (rest_text-parts Two c.args.trace.now count more)
