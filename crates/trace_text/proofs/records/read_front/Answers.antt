use Rattle.std.proofs.Common.{◌∙◌, sym, refl, inr, ◌∷◌, [], ◌++◌}
use Rattle.std.proofs.lemmas.Result.{err_from_is_err_and}
use Rattle.csv.specs.Reading.{Reached, strip_bom}
use Rattle.csv.specs.Records.{fields_of}
use Rattle.trace_text.proofs.RecordLoops.{HasRead-more, HasRead-less, HasRead-all, HasRead-front}
use Rattle.trace_text.proofs.TakenRecords.{after_records-more, after_records-refused}
use Rattle.trace_text.proofs.records.read_front.Goals as goal

pub loop-taker-init : goal.loop-taker-init
unfolding Reached
loop-taker-init g c =
    let reader = c.from_reader-reader.ensures in (
      [],
      record {
        plain = rw (c.flexible.ensures, c.has_headers.ensures) at reader.trim ∙ c.new.ensures.trim;
        flexible = rw c.flexible.ensures at reader.flexible;
        ready = inr (inr (rw (c.flexible.ensures, c.has_headers.ensures) at reader.has_headers, reader.headers));
        config = rw (c.flexible.ensures, c.has_headers.ensures) at reader.config ∙ c.new.ensures.config;
        left = strip_bom c.args.text.now;
        source = reader.source;
        reached = (sym reader.state, refl);
      },
      refl,
    )

pub returns-in-Ok-false : goal.returns-in-Ok-false
returns-in-Ok-false g c =
    let inv = c.loop-taker.invariant in
    let r = (rw c.in-Ok-false.is at c.read_byte_record.ensures.reads) inv.1.plain inv.1.ready in
    rw (HasRead-all c.args.text.now c.loop-taker.reader c.read_byte_record.new.self inv.0
    (fields_of c.read_byte_record.new.row) inv.1 (rw c.in-Ok-false.field-0-test at r)) inv.2

pub returns-in_err-take-in-Ok-true : goal.returns-in_err-take-in-Ok-true
returns-in_err-take-in-Ok-true g c =
    let inv = c.loop-taker.invariant in
    let r = (rw c.in-Ok-true.is at c.read_byte_record.ensures.reads) inv.1.plain inv.1.ready in
    let first = (rw c.in-Ok-true.is at c.read_byte_record.ensures.ready) inv.1.plain in
    let same = rw c.in-Ok-true.is at c.read_byte_record.ensures.flexible in
    let fields = fields_of c.read_byte_record.new.row in
    let more = HasRead-more c.args.text.now c.loop-taker.reader c.read_byte_record.new.self inv.0 fields inv.1
    (rw c.in-Ok-true.field-0-test at r) first same in
    let front = HasRead-front c.args.text.now c.read_byte_record.new.self (inv.0 ++ (fields ∷ [])) more in
    let p = err_from_is_err_and c.from_residual.result c.from_residual.ensures.1 in
    rw (p.1, p.2) (after_records-refused g.T.TakeRecords.is_memory g.T.TakeRecords.next
    c.args.taker.now c.loop-taker.taker _ inv.0 front.0 _ fields inv.2 (rw c.in_err-take-in-Ok-true.was at c.take.ensures.next) front.1)

pub loop-taker-smaller : goal.loop-taker-smaller
loop-taker-smaller g c =
    let inv = c.loop-taker.invariant in
    let r = (rw c.in-Ok-true.is at c.read_byte_record.ensures.reads) inv.1.plain inv.1.ready in
    HasRead-less c.args.text.now c.loop-taker.reader c.read_byte_record.new.self inv.0
    (fields_of c.read_byte_record.new.row) inv.1 (rw c.in-Ok-true.field-0-test at r)

pub loop-taker-preserved : goal.loop-taker-preserved
loop-taker-preserved g c =
    let inv = c.loop-taker.invariant in
    let r = (rw c.in-Ok-true.is at c.read_byte_record.ensures.reads) inv.1.plain inv.1.ready in
    let first = (rw c.in-Ok-true.is at c.read_byte_record.ensures.ready) inv.1.plain in
    let same = rw c.in-Ok-true.is at c.read_byte_record.ensures.flexible in (
      inv.0 ++ (fields_of c.read_byte_record.new.row ∷ []),
      HasRead-more c.args.text.now c.loop-taker.reader c.read_byte_record.new.self inv.0
          (fields_of c.read_byte_record.new.row) inv.1 (rw c.in-Ok-true.field-0-test at r) first same,
      after_records-more g.T.TakeRecords.next c.args.taker.now c.loop-taker.taker _ inv.0 _ inv.2
          (rw c.in_ok-take-in-Ok-true.was at c.take.ensures.next),
    )
