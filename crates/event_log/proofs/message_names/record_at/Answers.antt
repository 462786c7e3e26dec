use Rattle.std.proofs.Common.{◌≡◌, ◌≤◌, ◌∙◌, arith, sym, refl, inr, ◌∷◌, [], ◌++◌, length}
use Rattle.std.proofs.lemmas.List.{get_or_past, length-append}
use Rattle.csv.specs.Reading.{Reached, strip_bom}
use Rattle.csv.specs.Records.{fields_of}
use Rattle.trace_text.specs.Records.{records_of_text}
use Rattle.trace_text.proofs.RecordLoops.{HasRead-more, HasRead-all, HasRead-front}
use Rattle.event_log.proofs.RecordPlaces.{record-found}
use Rattle.event_log.proofs.message_names.record_at.Goals as goal

pub loop-fields-init : goal.loop-fields-init
unfolding Reached
loop-fields-init c =
    let reader = c.from_reader-reader.ensures in (
      [],
      record {
        plain = rw (c.flexible.ensures, c.has_headers.ensures) at reader.trim ∙ c.new.ensures.trim;
        flexible = rw c.flexible.ensures at reader.flexible;
        ready = inr (inr (rw (c.flexible.ensures, c.has_headers.ensures) at reader.has_headers, reader.headers));
        config = rw (c.flexible.ensures, c.has_headers.ensures) at reader.config ∙ c.new.ensures.config;
        left = strip_bom c.args.text.now;
        source = reader.source;
        reached = (sym reader.state, refl);
      },
      omega arith,
    )

pub returns-then-before-eq0 : goal.returns-then-before-eq0
returns-then-before-eq0 c =
    let inv = c.loop-fields.invariant in
    let r = (rw c.in-Ok-true.is at c.read_byte_record.ensures.reads) inv.1.plain inv.1.ready in
    let first = (rw c.in-Ok-true.is at c.read_byte_record.ensures.ready) inv.1.plain in
    let same = rw c.in-Ok-true.is at c.read_byte_record.ensures.flexible in
    let fields = fields_of c.read_byte_record.new.row in
    let more = HasRead-more c.args.text.now c.loop-fields.reader c.read_byte_record.new.self inv.0 fields inv.1
    (rw c.in-Ok-true.field-0-test at r) first same in
    let front = HasRead-front c.args.text.now c.read_byte_record.new.self (inv.0 ++ (fields ∷ [])) more in
    let count = inv.2 in
    let none = c.if-before-eq0.true in
    let all : length inv.0 ≡ c.args.place = omega (arith, count, none) in
    record-found (records_of_text c.args.text.now) inv.0 front.0 fields c.args.place front.1 all

pub returns-in-Ok-false : goal.returns-in-Ok-false
returns-in-Ok-false c =
    let inv = c.loop-fields.invariant in
    let r = (rw c.in-Ok-false.is at c.read_byte_record.ensures.reads) inv.1.plain inv.1.ready in
    let all = HasRead-all c.args.text.now c.loop-fields.reader c.read_byte_record.new.self inv.0
    (fields_of c.read_byte_record.new.row) inv.1 (rw c.in-Ok-false.field-0-test at r) in
    let count = inv.2 in
    let few : length inv.0 ≤ c.args.place = omega (arith, count) in
    c.new-in-Ok-false.ensures.fields ∙ sym (rw all (get_or_past inv.0 c.args.place [] few))

pub loop-fields-preserved : goal.loop-fields-preserved
loop-fields-preserved c =
    let inv = c.loop-fields.invariant in
    let r = (rw c.in-Ok-true.is at c.read_byte_record.ensures.reads) inv.1.plain inv.1.ready in
    let first = (rw c.in-Ok-true.is at c.read_byte_record.ensures.ready) inv.1.plain in
    let same = rw c.in-Ok-true.is at c.read_byte_record.ensures.flexible in
    let fields = fields_of c.read_byte_record.new.row in
    let count = inv.2 in
    let some = c.if-before-eq0.false in (
      inv.0 ++ (fields ∷ []),
      HasRead-more c.args.text.now c.loop-fields.reader c.read_byte_record.new.self inv.0 fields inv.1
          (rw c.in-Ok-true.field-0-test at r) first same,
      omega (arith, count, some, length-append inv.0 (fields ∷ [])),
    )
