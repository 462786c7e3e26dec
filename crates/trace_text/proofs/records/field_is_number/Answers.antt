use Rattle.std.proofs.Common.{◌∙◌, sym, ap}
use Rattle.csv.specs.Records.{fields_of}
use Rattle.trace_text.specs.Records.{field_of, number_of}
use Rattle.trace_text.proofs.Numbers.{bytes_eq-decimal, bytes_eq-no_number}
use Rattle.trace_text.proofs.records.field_is_number.Goals as goal

pub returns-in-Some : goal.returns-in-Some
returns-in-Some c = bytes_eq-decimal (field_of (fields_of c.args.fields.now) c.args.i) c.args.n c.in-Some.value c.ranges.n.fits
    (ap number_of (sym c.field.ensures) ∙ sym c.number.ensures ∙ c.in-Some.is)

pub returns-in-None : goal.returns-in-None
returns-in-None c = bytes_eq-no_number (field_of (fields_of c.args.fields.now) c.args.i) c.args.n c.ranges.n.fits
    (ap number_of (sym c.field.ensures) ∙ sym c.number.ensures ∙ c.in-None.is)
