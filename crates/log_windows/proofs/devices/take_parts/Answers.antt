use Rattle.std.proofs.Common.{◌∙◌, arith, refl}
use Rattle.std.proofs.lemmas.Result.{err_from_is_err_and}
use Rattle.event_log.specs.declared.refusals.LogError.TheVariants.{Memory}
use Rattle.log_windows.specs.declared.devices.WindowError.TheVariants as unread
use Rattle.log_windows.proofs.PartsTaken.{more-read, part-long, part-refused, part-taken, unfilled}
use Rattle.log_windows.proofs.devices.take_parts.Goals as goal

pub loop-init : goal.loop-init
loop-init g c = record { room = c.requires.room; read = λ start known h. h; faults = refl }

pub returns-in_err-take_front-clause-goes_on : goal.returns-in_err-take_front-clause-goes_on
returns-in_err-take_front-clause-goes_on g c =
    let p = err_from_is_err_and c.from_residual.result c.from_residual.ensures.1 in
    λ start known h.
    let r = c.loop.invariant.read start known h in
    rw (p.1, p.2) (part-refused g.T.TakeRows.next start known _ _ _ _ r (c.in_err-take_front.ensures r.bytes r.rest_is))

pub returns-in_err-take_front-clause-faults : goal.returns-in_err-take_front-clause-faults
returns-in_err-take_front-clause-faults g c =
    let p = err_from_is_err_and c.from_residual.result c.from_residual.ensures.1 in rw (p.1, p.2) c.loop.invariant.faults

pub returns-then-len-clause-goes_on : goal.returns-then-len-clause-goes_on
returns-then-len-clause-goes_on g c = λ start known h.
    let r = c.loop.invariant.read start known h in
    part-long g.T.TakeRows.next start known _ _ _ _ _ r
    (c.in_ok-take_front.ensures r.bytes r.rest_is) (omega (arith, c.if-len.true, c.len.ensures))

pub returns-then-len-clause-faults : goal.returns-then-len-clause-faults
returns-then-len-clause-faults g c = c.loop.invariant.faults

pub returns-in_err-fill-clause-goes_on : goal.returns-in_err-fill-clause-goes_on
returns-in_err-fill-clause-goes_on g c =
    let p = err_from_is_err_and c.from_residual-in_err-fill.result c.from_residual-in_err-fill.ensures.1 in
    λ start known h. rw (p.1, p.2) (unfilled g.T.TakeRows.next start known _ c.in_err-fill.ensures.refused)

pub returns-in_err-fill-clause-faults : goal.returns-in_err-fill-clause-faults
returns-in_err-fill-clause-faults g c =
    let p = err_from_is_err_and c.from_residual-in_err-fill.result c.from_residual-in_err-fill.ensures.1 in
    rw (p.1, p.2) (rw c.loop.invariant.faults at c.in_err-fill.ensures.faults)

pub returns-then-branch-clause-goes_on : goal.returns-then-branch-clause-goes_on
returns-then-branch-clause-goes_on g c = λ start known h.
    let r = c.loop.invariant.read start known h in
    more-read g.T.TakeRows.next start known _ _ _ _ _ c.in_ok-fill.ensures.bytes
    (part-taken g.T.TakeRows.next start known _ _ _ _ _ r (c.in_ok-take_front.ensures r.bytes r.rest_is))

pub returns-then-branch-clause-faults : goal.returns-then-branch-clause-faults
returns-then-branch-clause-faults g c = c.in_ok-fill.ensures.faults ∙ c.loop.invariant.faults

pub loop-preserved : goal.loop-preserved
loop-preserved g c = record {
  room = omega (arith, c.in_ok-fill.ensures.room, c.loop.invariant.room);
  read = λ start known h.
      let r = c.loop.invariant.read start known h in
      more-read g.T.TakeRows.next start known _ _ _ _ _ c.in_ok-fill.ensures.bytes
      (part-taken g.T.TakeRows.next start known _ _ _ _ _ r (c.in_ok-take_front.ensures r.bytes r.rest_is));
  faults = c.in_ok-fill.ensures.faults ∙ c.loop.invariant.faults;
}

pub returns-clause-goes_on : goal.returns-clause-goes_on
returns-clause-goes_on g c = λ start known h. unfilled g.T.TakeRows.next start known (unread.Log Memory) refl

pub returns-clause-faults : goal.returns-clause-faults
returns-clause-faults g c = c.loop.invariant.faults
