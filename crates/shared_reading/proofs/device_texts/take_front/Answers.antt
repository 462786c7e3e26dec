use Rattle.std.proofs.Common.{rules, ◌≡◌, true}
use Rattle.std.proofs.lemmas.Result.{err_from_is_err_and}
use Rattle.shared_reading.proofs.PartsRead.{front-taken, front-refused}
use Rattle.shared_reading.proofs.device_texts.take_front.Goals as goal

pub returns-in_err-read_alone : goal.returns-in_err-read_alone
returns-in_err-read_alone c =
    let rest = c.args.rest.now in
    let cut = c.cut_leaving-cut.result in
    let ends : c.ends_line.result ≡ true = search rules in
    let begins : c.begins_unmarked.result ≡ true = search rules in
    let p = err_from_is_err_and c.from_residual.result c.from_residual.ensures.1 in
    rw (p.1, p.2) (front-refused c.args.stage.now c.read_alone.new.stage rest cut _
    (c.has_quote.ensures c.if-has_quote.false) (c.ends_line.ensures ends) (rw c.tail.ensures at c.begins_unmarked.ensures begins)
    (rw c.in_err-read_alone.was at c.read_alone.ensures))

pub returns : goal.returns
returns c =
    let rest = c.args.rest.now in
    let cut = c.cut_leaving-cut.result in
    let ends : c.ends_line.result ≡ true = search rules in
    let begins : c.begins_unmarked.result ≡ true = search rules in
    front-taken c.args.stage.now c.read_alone.new.stage rest cut c.cut_leaving-cut.ensures
    (c.has_quote.ensures c.if-has_quote.false) (c.ends_line.ensures ends) (rw c.tail.ensures at c.begins_unmarked.ensures begins)
    (rw c.in_ok-read_alone.was at c.read_alone.ensures)
