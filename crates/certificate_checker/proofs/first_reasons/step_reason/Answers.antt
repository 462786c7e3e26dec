use Rattle.std.proofs.Common.{Some, None, refl}
use Rattle.certificate_checker.specs.declared.verdicts.Reason.TheVariants.{BadMiss, BadGap, DeltaFails, PhiFails}
use Rattle.certificate_checker.proofs.ReasonOrder.{first_after, none_in, first_in}
use Rattle.certificate_checker.proofs.first_reasons.step_reason.Goals as goal

pub returns-in-Some : goal.returns-in-Some
returns-in-Some c = first_in c.args.set c.args.trace.now c.args.rows.now (BadMiss c.in-Some.row) c.in-Some.ensures.0 c.in-Some.ensures.1

pub returns-in-Some-first_bad_gap : goal.returns-in-Some-first_bad_gap
returns-in-Some-first_bad_gap c = first_after c.args.set c.args.trace.now c.args.rows.now 7 7 8 8
    (Some (BadGap c.in-Some-first_bad_gap.row)) refl
    (none_in c.args.set c.args.trace.now c.args.rows.now 7 c.in_default.ensures) (first_in c.args.set c.args.trace.now c.args.rows.now
    (BadGap c.in-Some-first_bad_gap.row) c.in-Some-first_bad_gap.ensures.0 c.in-Some-first_bad_gap.ensures.1)

pub returns-in-Some-first_failing_delta : goal.returns-in-Some-first_failing_delta
returns-in-Some-first_failing_delta c = first_after c.args.set c.args.trace.now c.args.rows.now 7 8 9 9
    (Some (DeltaFails c.in-Some-first_failing_delta.row c.in-Some-first_failing_delta.miss)) refl (first_after c.args.set
    c.args.trace.now c.args.rows.now 7 7 8 8 None refl (none_in c.args.set c.args.trace.now c.args.rows.now 7 c.in_default.ensures)
    (none_in c.args.set c.args.trace.now c.args.rows.now 8 c.in_default-first_bad_gap.ensures))
    (first_in c.args.set c.args.trace.now c.args.rows.now (DeltaFails c.in-Some-first_failing_delta.row c.in-Some-first_failing_delta.miss)
    c.in-Some-first_failing_delta.ensures.0 c.in-Some-first_failing_delta.ensures.1)

pub returns-in-Some-first_failing_phi : goal.returns-in-Some-first_failing_phi
returns-in-Some-first_failing_phi c = first_after c.args.set c.args.trace.now c.args.rows.now 7 9 10 10
    (Some (PhiFails c.in-Some-first_failing_phi.row c.in-Some-first_failing_phi.gap)) refl (first_after c.args.set
    c.args.trace.now c.args.rows.now 7 8 9 9 None refl (first_after c.args.set c.args.trace.now c.args.rows.now 7 7 8 8 None refl
    (none_in c.args.set c.args.trace.now c.args.rows.now 7 c.in_default.ensures)
    (none_in c.args.set c.args.trace.now c.args.rows.now 8 c.in_default-first_bad_gap.ensures))
    (none_in c.args.set c.args.trace.now c.args.rows.now 9 c.in_default-first_failing_delta.ensures))
    (first_in c.args.set c.args.trace.now c.args.rows.now (PhiFails c.in-Some-first_failing_phi.row c.in-Some-first_failing_phi.gap)
    c.in-Some-first_failing_phi.ensures.0 c.in-Some-first_failing_phi.ensures.1)

pub returns : goal.returns
returns c = first_after c.args.set c.args.trace.now c.args.rows.now 7 9 10 10 None refl
    (first_after c.args.set c.args.trace.now c.args.rows.now 7 8 9 9 None refl
    (first_after c.args.set c.args.trace.now c.args.rows.now 7 7 8 8 None refl
    (none_in c.args.set c.args.trace.now c.args.rows.now 7 c.in_default.ensures)
    (none_in c.args.set c.args.trace.now c.args.rows.now 8 c.in_default-first_bad_gap.ensures))
    (none_in c.args.set c.args.trace.now c.args.rows.now 9 c.in_default-first_failing_delta.ensures))
    (none_in c.args.set c.args.trace.now c.args.rows.now 10 c.in_default-first_failing_phi.ensures)
