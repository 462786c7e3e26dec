use Rattle.std.proofs.Common.{ℕ, List, Option, length, refl, sym, subst}
use Rattle.step_trace.specs.Traces.{Recorded}
use Rattle.locked_recorder.specs.Audits.{IsExtended, IsFirstWithout}
use Rattle.locked_recorder.specs.Comparisons.{AreCompared}
use Rattle.locked_recorder.proofs.ComparedSeats.{AgreeWith-whole, IsFirstWithout-whole}
use Rattle.locked_recorder.proofs.audits.compared.Goals as goal

pub returns-in-Some-clause-refused : goal.returns-in-Some-clause-refused
returns-in-Some-clause-refused c =
    let trace = c.args.world.now.trace in
    let seats = c.args.seats.now in
    let agreed = c.deref.result.now in
    let so = subst (λ (ms : List (Option ℕ)). AreCompared trace.config trace.steps (length trace.steps) seats ms)
    (sym c.deref.ensures.value) c.in-Ok.ensures in (
      c.in-Some.index,
      refl,
      IsFirstWithout-whole trace.config
          trace.steps seats agreed c.in-Some.index so c.in-Some.ensures.within c.in-Some.ensures.before c.in-Some.ensures.differs,
    )

pub returns-in-Some-first_not_extended-clause-refused : goal.returns-in-Some-first_not_extended-clause-refused
returns-in-Some-first_not_extended-clause-refused c =
    let trace = c.args.world.now.trace in
    let seats = c.args.seats.now in
    let agreed = c.deref.result.now in
    let so = subst (λ (ms : List (Option ℕ)). AreCompared trace.config trace.steps (length trace.steps) seats ms)
    (sym c.deref.ensures.value) c.in-Ok.ensures in (
      AgreeWith-whole trace.config trace.steps seats agreed so c.in_default-first_differing.ensures.none,
      subst (λ (t : Recorded). IsFirstWithout (λ v. IsExtended t v) c.args.views.now c.in-Some-first_not_extended.index)
          c.trace.ensures.value c.in-Some-first_not_extended.ensures.some,
    )

pub returns-clause-seats : goal.returns-clause-seats
returns-clause-seats c =
    let trace = c.args.world.now.trace in
    let seats = c.args.seats.now in
    let agreed = c.deref.result.now in
    let so = subst (λ (ms : List (Option ℕ)). AreCompared trace.config trace.steps (length trace.steps) seats ms)
    (sym c.deref.ensures.value) c.in-Ok.ensures in
    AgreeWith-whole trace.config trace.steps seats agreed so c.in_default-first_differing.ensures.none
