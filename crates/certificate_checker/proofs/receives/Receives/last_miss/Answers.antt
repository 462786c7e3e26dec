use Rattle.std.proofs.Common.{ℕ, sym, subst, arith}
use Rattle.certificate_checker.proofs.Common.{IsMessage, step_at_within, IsLastWaited}
use Rattle.certificate_checker.proofs.WaitedReceives.{IsLastWaited-from_known, last_waited_bound, HasNoMiss-from_waited, IsLastMiss-from_waited}
use Rattle.certificate_checker.proofs.receives.Receives.last_miss.Goals as goal
use Rattle.certificate_checker.proofs.receives.Receives.last_miss.Goals.{After-last_waited-missed, then-missed-eq0-via-then-missed-eq0, then-missed-eq0-via-else-missed-eq0+then-tick-start}

pub returns-in_err-to : goal.returns-in_err-to
returns-in_err-to c = rw c.from_residual.ensures
    (λ o i e. c.in_err-to.ensures i.to (subst (λ (s : ℕ). IsMessage c.args.set c.args.trace.now.steps s i.to) e i.message))

pub tick-start-requires-clause-high : goal.tick-start-requires-clause-high
tick-start-requires-clause-high c = (step_at_within c.args.trace.now.steps c.args.sent _ c.in_ok-to.ensures.sent).1

pub last_waited-missed-requires-clause-sent : goal.last_waited-missed-requires-clause-sent
last_waited-missed-requires-clause-sent c =
    let inside = step_at_within c.args.trace.now.steps c.args.sent _ c.in_ok-to.ensures.sent in
    omega (arith, inside, c.requires.known.before_long)

-- the last Receive that the message waits through
waited : (c : After-last_waited-missed) → IsLastWaited c.args.trace.now.steps c.args.sent c.in_ok-to.to c.last_waited-missed.result
waited c =
    let message = c.in_ok-to.ensures in
    subst (λ (r : ℕ). IsLastWaited c.args.trace.now.steps c.args.sent c.in_ok-to.to r) (sym c.last_waited-missed.ensures)
    (IsLastWaited-from_known c.args.set c.args.trace.now c.args.sent c.in_ok-to.to
    c.args.self.now c.tick-start.ensures.well_formed.steps message (c.requires.set c.in_ok-to.to message.receiver) c.requires.known)

pub tick-requires-clause-high : goal.tick-requires-clause-high
tick-requires-clause-high c = last_waited_bound c.args.trace.now.steps c.args.sent c.in_ok-to.to c.last_waited-missed.result
    (waited (goal.at.tick-requires-clause-high c).After-last_waited-missed)

pub returns-then-missed-eq0 : goal.returns-then-missed-eq0
returns-then-missed-eq0 c =
    HasNoMiss-from_waited c.args.set c.args.trace.now c.tick-start.ensures.well_formed c.args.sent c.in_ok-to.to c.last_waited-missed.result
    c.in_ok-to.ensures (waited (goal.at.returns-then-missed-eq0 c).After-last_waited-missed) (λ some. elim c.then-missed-eq0.branch [
      | then-missed-eq0-via-then-missed-eq0 w ↦ (let none = w.if-missed-eq0.true in omega (arith, some, none))
      | then-missed-eq0-via-else-missed-eq0+then-tick-start w ↦ (let early = w.if-tick-start.true in
          let start = c.tick-start.ensures.value in let missed = w.tick.ensures.value in omega (arith, early, start, missed))
    ])

pub returns : goal.returns
returns c =
    let some = c.if-missed-eq0.false in
    let late = c.if-tick-start.false in
    let start = c.tick-start.ensures.value in
    let missed = c.tick.ensures.value in
    IsLastMiss-from_waited c.args.set c.args.trace.now
    c.tick-start.ensures.well_formed c.args.sent c.in_ok-to.to c.last_waited-missed.result
    c.in_ok-to.ensures (waited (goal.at.returns c).After-last_waited-missed) (omega (arith, some)) (omega (arith, late, start, missed))
