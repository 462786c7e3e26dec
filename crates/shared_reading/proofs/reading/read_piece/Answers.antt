use Rattle.std.proofs.Common.{◌≡◌, drop}
use Rattle.std.proofs.lemmas.Result.{err_from_is_err_and}
use Rattle.csv.specs.Reading.{strip_bom}
use Rattle.shared_reading.proofs.PieceLemmas.{piece-taken, piece-refused}
use Rattle.shared_reading.proofs.reading.read_piece.Goals as goal

pub returns-in_err-take_found : goal.returns-in_err-take_found
returns-in_err-take_found c =
    let text = c.args.text.now in
    let mark : strip_bom (drop c.args.end text) ≡ drop c.args.end text =
    rw c.tail.ensures at c.may_be_marked.ensures.unmarked c.if-may_be_marked.false in
    let p = err_from_is_err_and c.from_residual.result c.from_residual.ensures.1 in
    rw (p.1, p.2) (piece-refused c.args.version c.found_in-found.result c.args.stage.now
    _ text c.args.at c.args.end c.requires.order mark c.found_in-found.ensures (rw c.in_err-take_found.was at c.take_found.ensures))

pub returns-then-branch : goal.returns-then-branch
returns-then-branch c =
    let text = c.args.text.now in
    let mark : strip_bom (drop c.args.end text) ≡ drop c.args.end text =
    rw c.tail.ensures at c.may_be_marked.ensures.unmarked c.if-may_be_marked.false in (
      c.requires.within,
      piece-taken c.args.version c.found_in-found.result c.args.stage.now c.take_found.new.stage text c.args.at
          c.args.end c.requires.order mark c.found_in-found.ensures (rw c.if-branch.true at c.in_ok-take_found.ensures),
    )
