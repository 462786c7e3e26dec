use Rattle.std.proofs.Common.{sym}
use Rattle.trace_text.proofs.LongRecords.{readable-leads}
use Rattle.trace_text.proofs.records.read_records.Goals as goal

pub returns : goal.returns
returns g c =
    let same = readable-leads g.T.TakeRecords.next
    c.args.taker.now c.args.text.now c.readable_len.result g.met.T.TakeRecords.long c.readable_len.ensures.front in
    rw (sym same) c.read_front.ensures
