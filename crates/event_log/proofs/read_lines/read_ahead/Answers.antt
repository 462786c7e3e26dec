use Rattle.std.proofs.Common.{◌≤◌, length, map, refl, sym, subst, arith}
use Rattle.std.proofs.lemmas.Result.{err_from_is_err_and}
use Rattle.trace_text.specs.Records.{GivesUnless}
use Rattle.event_log.specs.LogRecords.{said}
use Rattle.event_log.specs.Naming.{is_memory}
use Rattle.event_log.specs.ToldLines.{AreTold, after_rows}
use Rattle.event_log.proofs.ToldLines.{ahead-ended, ahead-next, ahead-refused, told-shrinks}
use Rattle.event_log.proofs.read_lines.read_ahead.Goals as goal

pub join-next-requires-after_bounds : goal.join-next-requires-after_bounds
join-next-requires-after_bounds g c κs within =
    (subst (λ text. c.loop-rules.told.end ≤ length text) (sym c.loop-rules.invariant.same) c.loop-rules.invariant.ahead.lines.within, tt)

pub returns-in_err-read : goal.returns-in_err-read
returns-in_err-read g c =
    let p = err_from_is_err_and c.from_residual.result c.from_residual.ensures.1 in
    let taken = subst (λ r. GivesUnless is_memory (λ p. p.0) r (after_rows c.loop-rules.reading (map said c.loop-rules.told.rows.items)))
    c.in_err-read.was c.join-next.ensures.second in
    rw (p.1, p.2) (ahead-refused c.args.rules c.args.begun
    c.args.text.now c.args.at c.loop-rules.reading c.loop-rules.told c.in_err-read.field-0.0 c.loop-rules.invariant.ahead taken)

pub loop-rules-smaller : goal.loop-rules-smaller
loop-rules-smaller g c =
    let next = subst (λ text. AreTold c.args.rules text c.loop-rules.told.end c.join-next.result.0)
    c.loop-rules.invariant.same c.join-next.ensures.first in
    let some = c.loop-rules-test.true in
    let len = c.len.ensures in
    told-shrinks (length c.args.text.now) c.loop-rules.told.end c.join-next.result.0.end
    c.loop-rules.told.rows.items c.join-next.result.0.rows.items next.forward next.within (omega (arith, some, len))

pub loop-rules-preserved : goal.loop-rules-preserved
loop-rules-preserved g c =
    let taken = subst (λ r. GivesUnless is_memory (λ p. p.0) r (after_rows c.loop-rules.reading (map said c.loop-rules.told.rows.items)))
    c.in_ok-read.was c.join-next.ensures.second in
    let next = subst (λ text. AreTold c.args.rules text c.loop-rules.told.end c.join-next.result.0)
    c.loop-rules.invariant.same c.join-next.ensures.first in
    record {
      ahead = ahead-next c.args.rules c.args.begun c.args.text.now
          c.args.at c.loop-rules.reading c.loop-rules.told c.in_ok-read.read c.join-next.result.0 c.loop-rules.invariant.ahead taken next;
      same = refl;
    }

pub returns : goal.returns
returns g c =
    let none = c.loop-rules-test.false in
    let len = c.len.ensures in
    ahead-ended c.args.rules c.args.begun c.args.text.now c.args.at c.loop-rules.reading c.loop-rules.told c.loop-rules.invariant.ahead
    (omega (arith, none, len))
