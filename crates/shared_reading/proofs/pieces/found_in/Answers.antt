use Rattle.std.proofs.Common.{◌≡◌, rules, true}
use Rattle.trace_text.specs.Records.{records_of_text}
use Rattle.shared_reading.proofs.LinesTold.{read-all}
use Rattle.shared_reading.proofs.pieces.found_in.Goals as goal

pub returns-in-Ok-read_lines : goal.returns-in-Ok-read_lines
returns-in-Ok-read_lines c =
    let ends : c.ends_line.result ≡ true = search rules in
    record {
      quoteless = c.has_quote.ensures c.if-has_quote.false;
      line = c.ends_line.ensures ends;
      leads = λ t short. read-all c.args.version c.read_lines.new.lines
          (records_of_text c.args.bytes.now) t (rw c.in-Ok.ensures at c.in-Ok-read_lines.ensures) short;
    }
