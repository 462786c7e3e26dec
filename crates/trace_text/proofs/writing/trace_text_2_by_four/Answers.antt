use Rattle.std.proofs.Common.{◌≡◌, ◌/◌, subst}
use Rattle.std.specs.Prelude.{IfOk}
use Rattle.trace_text.specs.declared.versions.Version.TheVariants.{Two}
use Rattle.trace_text.specs.TraceTexts.{begun_text, rest_text}
use Rattle.trace_text.proofs.WrittenRecords.{version_text-parts}
use Rattle.trace_text.proofs.writing.trace_text_2_by_four.Goals as goal

pub returns-clause-text : goal.returns-clause-text
returns-clause-text g c =
    let half = c.len-2.result / 2 in
    let first =
    subst (λ r. IfOk r (λ text. text.items ≡ begun_text Two c.args.trace.now half)) c.in_ok-text.was c.join-second.ensures.second.0 in
    let second =
    subst (λ r. IfOk r (λ text. text.items ≡ rest_text Two c.args.trace.now half)) c.in_ok-second.was c.join-second.ensures.first in
    rw (c.in_ok-extend_from_slice.ensures.items, first, c.deref.ensures.value, second) (version_text-parts Two c.args.trace.now half)

pub returns-clause-sound : goal.returns-clause-sound
returns-clause-sound g c = record {
  setup = c.join-second.ensures.second.1.0;
  values = c.join-second.ensures.second.1.1;
  well_formed = c.last_tick-last.ensures.well_formed;
}
