use Rattle.std.proofs.Common.{◌∙◌, refl, arith}
use Rattle.std.proofs.lemmas.List.{length-set, take_more_set}
use Rattle.csv.specs.Records.{fields_of}
use Rattle.front.proofs.RowsRead.{entry_more}
use Rattle.front.proofs.row_records.entries_in.Goals as goal

pub loop-i-preserved : goal.loop-i-preserved
loop-i-preserved c =
    let i = c.loop-i.i in
    let fields = fields_of c.args.fields.now in
    record {
      long = length-set c.loop-i.entries i c.entry_of.result ∙ c.loop-i.invariant.long;
      read = rw (
        take_more_set c.loop-i.entries i c.entry_of.result (omega arith),
        c.loop-i.invariant.read,
        entry_more fields i (omega arith),
        c.entry_of.ensures,
        c.field.ensures,
      ) refl;
    }
