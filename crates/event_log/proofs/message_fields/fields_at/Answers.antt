use Rattle.std.proofs.Common.{ℕ, List, ◌∙◌, ap, sym, refl, inr, ◌∷◌, [], ◌++◌}
use Rattle.std.proofs.lemmas.List.{map-append}
use Rattle.csv.specs.Reading.{Reached, strip_bom}
use Rattle.csv.specs.Records.{fields_of}
use Rattle.trace_text.specs.Records.{field_of}
use Rattle.trace_text.proofs.RecordLoops.{HasRead-more, HasRead-less, HasRead-all}
use Rattle.event_log.proofs.message_fields.fields_at.Goals as goal

pub loop-fields-init : goal.loop-fields-init
unfolding Reached
loop-fields-init c =
    let reader = c.from_reader-reader.ensures in (
      [],
      record {
        plain = rw (c.flexible.ensures, c.has_headers.ensures) at reader.trim ∙ c.new.ensures.trim;
        flexible = rw c.flexible.ensures at reader.flexible;
        ready = inr (inr (rw (c.flexible.ensures, c.has_headers.ensures) at reader.has_headers, reader.headers));
        config = rw (c.flexible.ensures, c.has_headers.ensures) at reader.config ∙ c.new.ensures.config;
        left = strip_bom c.args.text.now;
        source = reader.source;
        reached = (sym reader.state, refl);
      },
      cc,
    )

pub returns-in-Ok-false : goal.returns-in-Ok-false
returns-in-Ok-false c =
    let inv = c.loop-fields.invariant in
    let r = (rw c.in-Ok-false.is at c.read_byte_record.ensures.reads) inv.1.plain inv.1.ready in
    rw (HasRead-all c.args.text.now c.loop-fields.reader c.read_byte_record.new.self inv.0
    (fields_of c.read_byte_record.new.row) inv.1 (rw c.in-Ok-false.field-0-test at r)) inv.2

pub loop-fields-smaller : goal.loop-fields-smaller
loop-fields-smaller c =
    let inv = c.loop-fields.invariant in
    let r = (rw c.in-Ok-true.is at c.read_byte_record.ensures.reads) inv.1.plain inv.1.ready in
    HasRead-less c.args.text.now c.loop-fields.reader c.read_byte_record.new.self inv.0
    (fields_of c.read_byte_record.new.row) inv.1 (rw c.in-Ok-true.field-0-test at r)

pub loop-fields-preserved : goal.loop-fields-preserved
loop-fields-preserved c =
    let inv = c.loop-fields.invariant in
    let r = (rw c.in-Ok-true.is at c.read_byte_record.ensures.reads) inv.1.plain inv.1.ready in
    let first = (rw c.in-Ok-true.is at c.read_byte_record.ensures.ready) inv.1.plain in
    let same = rw c.in-Ok-true.is at c.read_byte_record.ensures.flexible in
    let fields = fields_of c.read_byte_record.new.row in
    let at : List (List ℕ) → List ℕ = λ row. field_of row c.args.column in (
      inv.0 ++ (fields ∷ []),
      HasRead-more c.args.text.now c.loop-fields.reader c.read_byte_record.new.self inv.0 fields inv.1
          (rw c.in-Ok-true.field-0-test at r) first same,
      c.in_ok-push-in-Ok-true.ensures.items
          ∙ ap (λ (name : List ℕ). c.loop-fields.fields.items ++ name ∷ []) (c.in_ok-new-in-Ok-true.ensures ∙ c.field.ensures)
          ∙ ap (λ (xs : List (List ℕ)). xs ++ at fields ∷ []) inv.2
          ∙ sym (map-append at inv.0 (fields ∷ [])),
    )
