use Rattle.std.proofs.Common.{◌≡◌, ◌++◌, ◌∙◌, rules, refl, arith, length, take}
use Rattle.std.proofs.lemmas.List.{length-take-le}
use Rattle.std.proofs.lemmas.Result.{err_from_is_err_and}
use Rattle.shared_reading.proofs.PartsRead.{more-read, more-within, unread}
use Rattle.shared_reading.proofs.progress.fill.Goals as goal

pub returns-in_err-count-clause-goes_on : goal.returns-in_err-count-clause-goes_on
returns-in_err-count-clause-goes_on g c =
    let p = err_from_is_err_and c.from_residual.result c.from_residual.ensures.1 in
    λ known before h. rw (p.1, p.2)
    (unread known _ _ before c.loop-reader.progress _ (c.loop-reader.invariant.read known before h) c.in_err-count.ensures.refused)

pub returns-then-is_err-clause-goes_on : goal.returns-then-is_err-clause-goes_on
returns-then-is_err-clause-goes_on g c =
    let bytes = take c.in_ok-count.count c.read_once.new.piece in
    let long = length-take-le c.in_ok-count.count c.read_once.new.piece c.in_ok-count.ensures.bound in
    λ known before h. more-within known _ _ before bytes c.loop-reader.progress c.in_ok-count.ensures.bytes
    (omega (arith, long, c.in_ok-count.ensures.limit)) (c.loop-reader.invariant.read known before h)

pub loop-reader-preserved : goal.loop-reader-preserved
loop-reader-preserved g c =
    let count = c.in_ok-count.count in
    let bytes = take count c.read_once.new.piece in
    let long : length bytes ≡ count = length-take-le count c.read_once.new.piece c.in_ok-count.ensures.bound in
    let rest : c.extend_from_slice.new.self.items ≡ c.loop-reader.progress.rest.items ++ bytes = search rules in
    record {
      room = search rules;
      limit = search (rules, arith);
      more = search (rules, arith);
      read = λ known before h. more-read known _ _ before bytes c.loop-reader.progress _ refl
          (omega (arith, long)) rest c.in_ok-count.ensures.bytes (c.loop-reader.invariant.read known before h);
      faults = c.in_ok-count.ensures.faults ∙ c.loop-reader.invariant.faults;
    }
