use Rattle.std.proofs.Common.{length, refl, sym, ap, subst, ◌∙◌, arith}
use Rattle.std.proofs.lemmas.List.{length-replicate}
use Rattle.deciding_runs.specs.Paces.{Paced, opening_pace}
use Rattle.deciding_runs.specs.Peers.{unheard}
use Rattle.locked_recorder.specs.declared.errors.DriveStop.TheVariants.{Record}
use Rattle.locked_recorder.specs.PacedDrives.{IsPacedStopped}
use Rattle.locked_recorder.proofs.PacedSeats.{IsPacedUnderWay-none, IsPacedUnderWay-more, IsPacedStopped-refused}
use Rattle.locked_recorder.proofs.recorders.Recorder.drive_paced.Goals as goal

pub loop-made-init : goal.loop-made-init
loop-made-init g c = record {
  peers = ap (λ (x : Paced). length x.peers) c.in-Ok.ensures.pace ∙ length-replicate c.args.self.now.config.n unheard;
  way = IsPacedUnderWay-none c.args.self.now c.args.patience c.args.seat.now c.in-Ok.pace c.in-Ok.ensures.pace;
}

pub loop-made-preserved : goal.loop-made-preserved
loop-made-preserved g c = record {
  peers = c.record_paced.ensures.peers ∙ c.loop-made.invariant.peers;
  way = IsPacedUnderWay-more c.args.self.now c.args.patience c.loop-made.made c.loop-made.pace c.record_paced.new.pace c.args.seat.now
      c.loop-made.seat c.record_paced.new.self c.loop-made.invariant.way c.in_default.ensures.tag c.in_default.ensures.recorded;
}

pub returns-in-Err-clause-stopped : goal.returns-in-Err-clause-stopped
returns-in-Err-clause-stopped g c =
    let some = c.if-steps-eq0.false in
    IsPacedStopped-refused c.args.self.now c.args.patience c.args.steps 0
    (opening_pace c.args.self.now.config c.args.patience) c.args.seat.now c.args.seat.now c.in-Err.why
    (omega arith) (IsPacedUnderWay-none c.args.self.now c.args.patience c.args.seat.now _ refl) c.in-Err.ensures.refused

pub returns-in-Err-record_paced-clause-stopped : goal.returns-in-Err-record_paced-clause-stopped
returns-in-Err-record_paced-clause-stopped g c = subst (λ s. IsPacedStopped c.args.self.now c.args.patience c.args.steps c.args.seat.now s
    (record { made = c.loop-made.made; why = Record c.in-Err-record_paced.why })) (sym c.in-Err-record_paced.ensures.err)
    (IsPacedStopped-refused c.args.self.now c.args.patience c.args.steps c.loop-made.made c.loop-made.pace c.args.seat.now
    c.loop-made.seat c.in-Err-record_paced.why c.loop-made-test.true c.loop-made.invariant.way c.in-Err-record_paced.ensures.refused)
