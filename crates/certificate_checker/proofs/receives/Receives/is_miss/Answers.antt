use Rattle.std.proofs.Common.{ℕ, sym, subst, arith}
use Rattle.std.proofs.lemmas.Bool.{leb-true, le-leb}
use Rattle.certificate_checker.proofs.Common.{step_at_within, IsLastWaited}
use Rattle.certificate_checker.proofs.WaitedReceives.{IsLastWaited-from_known, IsMiss-by_waited}
use Rattle.certificate_checker.proofs.receives.Receives.is_miss.Goals as goal

pub returns-in_default : goal.returns-in_default
returns-in_default c = (λ h. cc, λ m. absurd (c.in_default.ensures m.to m.message))

pub tick-requires-clause-high : goal.tick-requires-clause-high
tick-requires-clause-high c = (step_at_within c.args.trace.now.steps c.args.miss.sent _ c.in-Some.ensures.sent).1

pub tick-requires-2-clause-high : goal.tick-requires-2-clause-high
tick-requires-2-clause-high c =
    (step_at_within c.args.trace.now.steps c.args.miss.missed _ (c.is_receive_of.ensures.0 c.if-not-is_receive_of.false).step).1

pub returns-then-tick : goal.returns-then-tick
returns-then-tick c =
    let t = c.args.trace.now in
    let message = c.in-Some.ensures in
    let waited = subst (λ (r : ℕ). IsLastWaited t.steps c.args.miss.sent c.in-Some.to r) (sym c.last_waited.ensures)
    (IsLastWaited-from_known c.args.set t c.args.miss.sent c.in-Some.to c.args.self.now c.tick.ensures.well_formed.steps message
    (c.requires.set c.in-Some.to message.receiver) c.requires.known) in
    let exact = IsMiss-by_waited c.args.set t c.tick.ensures.well_formed c.args.miss c.in-Some.to c.last_waited.result message
    (c.is_receive_of.ensures.0 c.if-not-is_receive_of.false) waited in
    let sent = c.tick.ensures.value in
    let missed = c.tick-2.ensures.value in (
      λ h. exact.1 (omega (arith, c.if-tick.true, sent, missed), leb-true c.args.miss.missed c.last_waited.result h),
      λ i. le-leb c.args.miss.missed c.last_waited.result (exact.0 i).1,
    )
