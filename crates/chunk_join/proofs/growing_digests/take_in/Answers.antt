use Rattle.std.proofs.Common.{◌-◌, subst, sym}
use Rattle.std.proofs.lemmas.Result.{on_ok_weaker}
use Rattle.chunk_join.specs.Analysts.{IsDigestUpTo}
use Rattle.chunk_join.proofs.SharedTicks.{IsDigestUpTo-joined}
use Rattle.chunk_join.proofs.growing_digests.take_in.Goals as goal

pub returns-clause-ok : goal.returns-clause-ok
returns-clause-ok c = on_ok_weaker c.append.result
    (λ same. subst (IsDigestUpTo c.args.set c.args.trace.now c.args.to) (sym same) (IsDigestUpTo-joined c.args.set c.args.trace.now
    (c.args.from - 1) c.args.to c.args.digest.now c.in_ok-more.more c.requires.before c.in_ok-more.ensures.digest)) c.append.ensures.ok
