use Rattle.step_buffers.proofs.Common.{Fits-from_none, IsWellFormed-push}
use Rattle.step_buffers.proofs.GrownNodes.{IsRun-push}
use Rattle.step_buffers.proofs.appends.append.Goals as goal

pub returns-in-Ok-clause-run : goal.returns-in-Ok-clause-run
returns-in-Ok-clause-run c =
    let config = c.args.trace.now.config in
    let steps = c.args.trace.now.steps in
    let run = c.requires.run.run in
    record {
      run = rw c.in-Ok.ensures.appended (IsRun-push config steps c.args.step run (IsWellFormed-push config steps c.args.step run.well_formed
          (Fits-from_none config steps c.args.step c.requires.next.fits)) c.requires.next.due);
      one_per_tick = c.in-Ok.ensures.one_per_tick c.requires.run.one_per_tick;
    }
