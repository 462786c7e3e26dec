use Rattle.std.proofs.Common.{◌-◌, List, ℕ, map, string_bytes}
use Rattle.csv.specs.Records.{fields_of}
use Rattle.trace_text.specs.Records.{field_of}
use Rattle.step_tables.specs.Records.{named, with_deed}
use Rattle.step_tables.proofs.RefusalsGoOn.{refusal-goes_on}
use Rattle.step_tables.proofs.records.take_step.Goals as goal

pub returns-in-Err : goal.returns-in-Err
returns-in-Err c =
    let fields = fields_of c.args.fields.now in
    refusal-goes_on (named c.args.at (map string_bytes c.args.nodes.now.items) (c.args.step.now.proc - 1) (field_of fields 5))
    (λ (nodes : List (List ℕ)). with_deed c.args.at (record { nodes = nodes; rows = c.args.rows.now.items }) c.args.step.now.act fields)
    c.in-Err.why (rw c.field.ensures at c.in-Err.ensures)
