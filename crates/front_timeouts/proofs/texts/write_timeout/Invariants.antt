use Rattle.std.proofs.Common.{◌≡◌, [], take, map}
use Rattle.std.specs.Prelude.{decimal}
use Rattle.csv.specs.Records.{fields_of, partial_of}
use Rattle.trace_text.specs.RecordWriting.{ArePlain}
use Rattle.front_timeouts.specs.TimeoutTexts.{numbers_of}
use Rattle.front_timeouts.proofs.texts.write_timeout.Given as goal

-- the numbers so far
abbrev pub invariant-loop-n : goal.invariant-loop-n
invariant-loop-n l = record {
  items : l.n-items ≡ numbers_of l.q l.timeout;
  whole : partial_of l.fields ≡ [];
  fields : fields_of l.fields ≡ map decimal (take l.n-index (numbers_of l.q l.timeout));
  plain : ArePlain (fields_of l.fields);
}
