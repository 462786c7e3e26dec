use Rattle.std.proofs.Common.{◌-◌, inl, inr, arith}
use Rattle.std.proofs.lemmas.Result.{err_from_is_err_and}
use Rattle.chunk_join.specs.Summaries.{Whole}
use Rattle.chunk_join.specs.Digests.{IsDigestOf}
use Rattle.chunk_join.proofs.SharedTicks.{IsDigestUpTo-some}
use Rattle.chunk_join.proofs.analysts.stairs_from.Goals as goal

pub returns-in-Ok-clause-stairs : goal.returns-in-Ok-clause-stairs
returns-in-Ok-clause-stairs c =
    let sound = c.requires.sound in
    let whole : Whole = record { set = c.args.set; trace = c.args.trace.now; sound = sound } in
    let all : IsDigestOf whole 0 c.args.trace.now.last c.in_ok-whole.whole =
    rw c.last_tick.ensures.value at (c.in_ok-whole.ensures.digest sound) in
    c.in-Ok.ensures.whole whole all

pub returns-clause-more : goal.returns-clause-more
returns-clause-more c =
    let all = rw c.last_tick.ensures.value at c.in_ok-whole.ensures.digest in
    IsDigestUpTo-some c.args.set c.args.trace.now c.args.trace.now.last c.in_ok-whole.whole c.requires.sound all c.in-Err.ensures.some

pub returns-in_err-whole-clause-more : goal.returns-in_err-whole-clause-more
returns-in_err-whole-clause-more c =
    let p = err_from_is_err_and c.from_residual.result c.from_residual.ensures.1 in
    rw p.1 (elim c.in_err-whole.ensures.more [
      | inl some ↦ (let k = IsDigestUpTo-some c.args.set c.args.trace.now (c.args.from - 1)
          c.args.before.now c.requires.sound c.requires.before some in omega (arith, k, c.requires.order))
      | inr le ↦ omega (arith, le, c.requires.low, c.last_tick.ensures.value)
    ])
