use Rattle.std.proofs.Common.{◌≡◌, drop, true, false, rules}
use Rattle.std.proofs.lemmas.Result.{err_from_is_err_and}
use Rattle.csv.specs.Reading.{strip_bom}
use Rattle.shared_reading.specs.Seams.{has_quote, ends_line}
use Rattle.shared_reading.specs.Pieces.{part}
use Rattle.shared_reading.proofs.PieceLemmas.{part-read, part-refused}
use Rattle.shared_reading.proofs.reading.read_part.Goals as goal

pub returns-in_err-read_records : goal.returns-in_err-read_records
returns-in_err-read_records c =
    let text = c.args.text.now in
    let bytes = part text c.args.from c.args.end in
    let quoteless : has_quote bytes ≡ false = c.has_quote.ensures c.if-has_quote.false in
    let ends : c.ends_line.result ≡ true = search rules in
    let line : ends_line bytes ≡ true = c.ends_line.ensures ends in
    let mark : strip_bom (drop c.args.end text) ≡ drop c.args.end text =
    rw c.tail.ensures at c.may_be_marked.ensures.unmarked c.if-may_be_marked.false in
    let p = err_from_is_err_and c.from_residual.result c.from_residual.ensures.1 in
    rw (p.1, p.2) (part-refused c.args.stage.now _ text c.args.from c.args.end c.requires.order quoteless line mark
    (rw c.in_err-read_records.was at c.read_records.ensures))

pub returns : goal.returns
returns c =
    let text = c.args.text.now in
    let bytes = part text c.args.from c.args.end in
    let quoteless : has_quote bytes ≡ false = c.has_quote.ensures c.if-has_quote.false in
    let ends : c.ends_line.result ≡ true = search rules in
    let line : ends_line bytes ≡ true = c.ends_line.ensures ends in
    let mark : strip_bom (drop c.args.end text) ≡ drop c.args.end text =
    rw c.tail.ensures at c.may_be_marked.ensures.unmarked c.if-may_be_marked.false in (
      c.requires.within,
      part-read c.args.stage.now c.read_records.new.taker text c.args.from c.args.end c.requires.order quoteless line mark
          (rw c.in_ok-read_records.was at c.read_records.ensures),
    )
