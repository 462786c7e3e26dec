use Rattle.locked_recorder.proofs.DriveMoves.{IsMoved-sent, IsMoved-received}
use Rattle.locked_recorder.proofs.recorders.Recorder.go_on.Goals as goal

pub returns-in-Send-clause-moved : goal.returns-in-Send-clause-moved
returns-in-Send-clause-moved g c =
    let made = rw c.is_over.ensures at c.in_ok-record.ensures.recorded in
    IsMoved-sent _ _ _ _ _ c.last.result.now c.in-Send.to made c.last.ensures c.in-Send.is

pub returns-in-Receive-clause-moved : goal.returns-in-Receive-clause-moved
returns-in-Receive-clause-moved g c =
    let made = rw c.is_over.ensures at c.in_ok-record.ensures.recorded in
    IsMoved-received _ _ _ _ _ _ c.last.result.now
    c.in-Receive.ends c.in-Receive.ids made c.last.ensures c.in-Receive.is c.receive.ensures.received
