use Rattle.std.proofs.Common.{sym, ◌∙◌, subst}
use Rattle.locked_recorder.specs.declared.errors.DriveStop.TheVariants.{Record}
use Rattle.locked_recorder.specs.Drives.{drive_move, IsMoved, IsStopped}
use Rattle.locked_recorder.specs.Choices.{IsChoiceRefusal}
use Rattle.locked_recorder.proofs.DrivenSeats.{IsUnderWay, IsUnderWay-none, IsUnderWay-more, IsStopped-held, IsStopped-refused}
use Rattle.locked_recorder.proofs.recorders.Recorder.drive.Goals as goal

pub loop-made-init : goal.loop-made-init
loop-made-init g c =
    let s = c.args.seat.now in (
      c.new-pace.ensures.patience,
      subst (λ n. IsUnderWay c.args.self.now c.args.patience 0 n s s)
          (sym c.new-pace.ensures.received) (IsUnderWay-none c.args.self.now c.args.patience s),
    )

pub loop-made-preserved : goal.loop-made-preserved
loop-made-preserved g c =
    let is = c.loop-made.invariant in
    let moved = subst (λ n. IsMoved c.args.self.now n c.loop-made.pace.received c.go_on.new.pace.received c.loop-made.seat c.go_on.new.seat)
    is.0 c.in_default.ensures.moved in (
      c.go_on.ensures.patience ∙ is.0,
      IsUnderWay-more c.args.self.now c.args.patience c.loop-made.made c.loop-made.pace.received
          c.go_on.new.pace.received c.args.seat.now c.loop-made.seat c.go_on.new.seat is.1 c.in_default.ensures.tag moved,
    )

pub returns-then-not-enter-clause-stopped : goal.returns-then-not-enter-clause-stopped
returns-then-not-enter-clause-stopped g c = IsStopped-held c.args.self.now c.args.patience c.args.steps c.args.seat.now

pub returns-in-Err-clause-stopped : goal.returns-in-Err-clause-stopped
returns-in-Err-clause-stopped g c =
    let is = c.loop-made.invariant in
    let refused = subst (λ n. IsChoiceRefusal c.args.self.now c.loop-made.seat (drive_move n c.loop-made.pace.received) c.in-Err.why)
    is.0 c.in-Err.ensures.refused in
    subst (λ s. IsStopped c.args.self.now c.args.patience c.args.steps c.args.seat.now s
    (record { made = c.loop-made.made; why = Record c.in-Err.why })) (sym c.in-Err.ensures.err)
    (IsStopped-refused c.args.self.now c.args.patience
    c.args.steps c.loop-made.made c.loop-made.pace.received c.args.seat.now c.loop-made.seat c.in-Err.why
    c.loop-made-test.true is.1 refused)
