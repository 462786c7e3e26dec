use Rattle.std.proofs.Common.{◌++◌, ◌∙◌, arith, length-append, take}
use Rattle.std.proofs.KnownBytes.{Consumes-trans}
use Rattle.std.proofs.lemmas.List.{length-take-le}
use Rattle.std.proofs.lemmas.Result.{err_from_is_err_and}
use Rattle.shared_reading.proofs.PartsRead.{unread-after}
use Rattle.shared_reading.proofs.progress.skip_rest.Goals as goal

pub returns-in_err-count-clause-refused : goal.returns-in_err-count-clause-refused
returns-in_err-count-clause-refused g c =
    let p = err_from_is_err_and c.from_residual.result c.from_residual.ensures.1 in
    let read = c.loop-count.invariant.read in
    rw (p.1, p.2) (unread-after c.args.total c.loop-count.total _ _ _ read.0 _ read.2 read.1 c.in_err-count.ensures.refused)

pub loop-count-preserved : goal.loop-count-preserved
loop-count-preserved g c =
    let read = c.loop-count.invariant.read in
    let more = take c.in_ok-count.count c.read_once.new.piece in record {
      room = c.in_ok-count.ensures.room ∙ c.loop-count.invariant.room;
      limit = c.in_ok-count.ensures.limit;
      read = (
        read.0 ++ more,
        Consumes-trans _ _ _ read.0 more read.1 c.in_ok-count.ensures.bytes,
        omega (
          arith,
          read.2,
          length-append read.0 more,
          length-take-le c.in_ok-count.count c.read_once.new.piece
              c.in_ok-count.ensures.bound,
        ),
      );
      faults = c.in_ok-count.ensures.faults ∙ c.loop-count.invariant.faults;
    }
